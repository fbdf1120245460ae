-- The rows of an expression, and those that a query keeps, once the live texts of a segment stand behind other texts.
use Rattle.std.proofs.Common.{◌≡◌, ℕ, zero, suc, ◌+◌, ◌<◌, List, [], ◌∷◌, ◌++◌, length, get_or, slice_get, length-append, refl, sym, ◌∙◌, ap, arith}
use Rattle.std.specs.List.{Contains}
use Rattle.std.proofs.lemmas.List.{get_or_default}
use Rattle.std.proofs.lemmas.Option.{slice_get_within}
use Rattle.mt_text_spec.specs.Texts.{Text, Row}
use Rattle.mt_match_spec.specs.Rows.{IsRow}
use Rattle.mt_match_spec.specs.Kept.{Keeps}
use Rattle.mt_corpus_spec.specs.Groups.{Group, all_texts, live_texts}
use Rattle.mt_corpus_spec.specs.Segments.{live_numbers}
use Rattle.mt_eval_spec.specs.RowsIn.{IsRowIn, KeepsIn}
use Rattle.mt_eval_laws.specs.Laws.{SaySame, RowsAreTold, KeptAreTold, NoMoreThanAll}
use Rattle.mt_decode_laws.specs.Laws.{LiveTextsAreNumbered}
use Rattle.mt_corpus_laws.specs.Laws.{row_to}
use Rattle.mt_corpus_laws.specs.Joined.{RowsAreJoined, KeptAreJoined, RowsGoOn}
use Rattle.mt_corpus_laws.proofs.Local.{rows_local, kept_local}
use Rattle.mt_corpus_laws.proofs.Places.{live_ascend}
use Rattle.mt_corpus_laws.proofs.Joining.{Parts, joined}

-- ---- texts behind others

stays_there : (first more : List Text) (number : ℕ) → number < length first → slice_get (first ++ more) number ≡ slice_get first number
stays_there [] more number l = absurd (omega (arith, l))
stays_there (text ∷ first) more zero l = refl
stays_there (text ∷ first) more (suc number) l = stays_there first more number (omega (arith, l))

stands_behind : (first more : List Text) (number : ℕ) → slice_get (first ++ more) (length first + number) ≡ slice_get more number
stands_behind [] more number = let e : 0 + number ≡ number = omega arith in ap (slice_get more) e
stands_behind (text ∷ first) more number =
    let e : suc (length first) + number ≡ suc (length first + number) = omega arith in
    ap (slice_get (text ∷ (first ++ more))) e ∙ stands_behind first more number

-- ---- what depends on its own text alone, and is told of a segment

module _ (numbered : LiveTextsAreNumbered) (P : List Text → Row → Type 0) (local : (first second : List Text) (row : Row) (text : ℕ) → slice_get first row.span.text ≡ slice_get second text → P first row → P second (row_to text row))
    (there : (corpus : List Text) (row : Row) → P corpus row → row.span.text < length corpus) (first : List Text) (group : Group) (In : Row → Type 0)
    (told : SaySame In (λ row. Contains (live_numbers 0 group) row.span.text × P (all_texts group) row)) where
  from_segment : (k : ℕ) → k < length (live_numbers 0 group) → slice_get (first ++ live_texts group) (length first + k) ≡ slice_get (all_texts group) (get_or (live_numbers 0 group) k 0)
  from_segment k l = stands_behind first (live_texts group) k ∙ (numbered group).each k l

  parts : Parts (length first) (live_numbers 0 group) (P first) In (P (first ++ live_texts group))
  parts = record {
    below = λ row h. there first row h;
    listed = λ row h. (told.on row h).0;
    within = λ row h. let l = there (first ++ live_texts group) row h in omega (arith, l, length-append first (live_texts group), (numbered group).count);
    stays = λ row h. local first (first ++ live_texts group) row row.span.text (sym (stays_there first (live_texts group) row.span.text (there first row h))) h;
    was = λ row low h. local (first ++ live_texts group) first row row.span.text (stays_there first (live_texts group) row.span.text low) h;
    comes = λ row k l e h. local (all_texts group) (first ++ live_texts group) row (length first + k) (ap (slice_get (all_texts group)) e ∙ sym (from_segment k l)) (told.on row h).1;
    came = λ row k l e h.
        told.back (row_to (get_or (live_numbers 0 group) k 0) row) (
          (k, l, get_or_default (live_numbers 0 group) k (get_or (live_numbers 0 group) k 0) 0 l),
          local (first ++ live_texts group) (all_texts group) row (get_or (live_numbers 0 group) k 0) (ap (slice_get (first ++ live_texts group)) e ∙ from_segment k l) h,
        );
  }

-- ---- rows and kept rows

pub rows_joined : RowsAreTold → LiveTextsAreNumbered → RowsAreJoined
rows_joined are_told numbered images registry first group tables expr rows more valid tell all others =
    joined (length first) (live_numbers 0 group) (live_ascend group) (IsRow images registry first expr) (IsRowIn tables (live_numbers 0 group) expr) (IsRow images registry (first ++ live_texts group) expr)
    (parts numbered (λ corpus. IsRow images registry corpus expr) (λ one second row text same h. rows_local images registry one second expr row text same h)
    (λ corpus row h. slice_get_within corpus row.span.text h.text h.there) first group (IsRowIn tables (live_numbers 0 group) expr)
    (are_told images registry (all_texts group) tables (live_numbers 0 group) expr tell valid))
    rows more all others

pub kept_joined : KeptAreTold → LiveTextsAreNumbered → KeptAreJoined
kept_joined are_told numbered images registry first group tables query rows more valid tell all others =
    joined (length first) (live_numbers 0 group) (live_ascend group) (Keeps images registry first query) (KeepsIn tables (live_numbers 0 group) query) (Keeps images registry (first ++ live_texts group) query)
    (parts numbered (λ corpus. Keeps images registry corpus query) (λ one second row text same h. kept_local images registry one second query row text same h)
    (λ corpus row h. slice_get_within corpus row.span.text h.is_row.text h.is_row.there) first group (KeepsIn tables (live_numbers 0 group) query)
    (are_told images registry (all_texts group) tables (live_numbers 0 group) query tell valid))
    rows more all others

-- ---- more texts

pub rows_on : NoMoreThanAll → RowsGoOn
rows_on no_more images registry first more expr rows all are every =
    no_more rows all are.ascending every.ascending
    (λ row m.
    let is = are.only row m in
    every.each row (rows_local images registry first (first ++ more) expr row row.span.text (sym (stays_there first more row.span.text (slice_get_within first row.span.text is.text is.there))) is))
