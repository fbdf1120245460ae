-- The rows of a test alone that holds of every token and has no label.
use Rattle.std.proofs.Common.{◌≡◌, ℕ, zero, suc, ◌+◌, ◌<◌, ◌≤◌, List, [], ◌∷◌, ◌++◌, length, refl, sym, ◌∙◌, ap, subst, arith}
use Rattle.std.proofs.lemmas.List.{length-append}
use Rattle.mt_text_spec.specs.Texts.{Row}
use Rattle.mt_text_spec.specs.Queries as q
use Rattle.mt_text_spec.specs.Orders.{row_cmp}
use Rattle.mt_match_spec.specs.Labels.{no_labels, labelled}
use Rattle.mt_match_spec.specs.Rows.{ListsAll}
use Rattle.mt_segment_spec.specs.Tables.{Tables, first_place}
use Rattle.mt_eval_spec.specs.Told.{told, told_tokens}
use Rattle.mt_automaton.specs.RowsFrom.{IsRowOfText, HasLonger}
use Rattle.mt_rows.specs.Appends.{Appends}
use Rattle.mt_prepare.specs.declared.resolved.Resolved.{Resolved}
use Rattle.mt_prepare.specs.declared.resolved.Resolved.TheVariants as resolved
use Rattle.mt_prepare.specs.TestRows.{SaysAt}
use Rattle.mt_eval.specs.Sequences.{AreTestsOf, BeginsAt, IsRowAt, IsRowBelow, row_from, test_at}
use Rattle.mt_eval.specs.Every.{IsAny, IsAnyAlone, IsUnlabelled, tokens_of}
use Rattle.mt_eval.proofs.Rowed as rowed

any_says : (tables : Tables) (test : Resolved) (place : ℕ) → IsAny test → SaysAt tables test place
any_says tables resolved.Any place any = tt
any_says tables (resolved.One attr id negated) place any = absurd any
any_says tables (resolved.Some attr ids negated) place any = absurd any
any_says tables (resolved.Not' p inner) place any = absurd any
any_says tables (resolved.Both' p left r right) place any = absurd any
any_says tables (resolved.Either' p left r right) place any = absurd any

abbrev bare : (text begin : ℕ) → Row
bare text begin = record { span = record { text = text; begin = begin; end = begin + 1 }; labels = no_labels }

its_row : (expr : q.Expr) (text begin : ℕ) → IsUnlabelled expr → row_from expr text begin ≡ bare text begin
its_row (q.TokenTest label test) text begin is = ap (λ (l : ℕ). record { span = record { text = text; begin = begin; end = begin + 1 }; labels = labelled l begin }) is
its_row (q.Begin kind test) text begin is = absurd is
its_row (q.End kind) text begin is = absurd is
its_row (q.Whole kind test) text begin is = absurd is
its_row (q.Seq left right) text begin is = absurd is
its_row (q.Choice left right) text begin is = absurd is
its_row (q.Repeat inner least most) text begin is = absurd is

pub no_tokens : (text : ℕ) → tokens_of text 0 ≡ []
unfolding tokens_of
no_tokens text = refl

one_more : (text many : ℕ) → tokens_of text (suc many) ≡ tokens_of text many ++ bare text many ∷ []
unfolding tokens_of
one_more text many = refl

pub next_token : (text many : ℕ) → tokens_of text many ++ record { span = record { text = text; begin = many; end = many + 1 }; labels = no_labels } ∷ [] ≡ tokens_of text (many + 1)
next_token text many = let e : suc many ≡ many + 1 = omega arith in sym (one_more text many) ∙ ap (tokens_of text) e

pub so_many : (text many : ℕ) → length (tokens_of text many) ≡ many
so_many text zero = ap length (no_tokens text)
so_many text (suc many) = let more = ap length (one_more text many) in let long = length-append (tokens_of text many) (bare text many ∷ []) in let before = so_many text many in omega (arith, more, long, before)

module _ (tables : Tables) (expr : q.Expr) (tests : List Resolved) (text : ℕ) (are : AreTestsOf tables expr tests) (here : text < length tables.texts) (plain : IsUnlabelled expr) (alone : IsAnyAlone tests) where
  one_test : 0 < length tests
  one_test = let one = alone.one in omega (arith, one)

  begins : (begin : ℕ) → begin < told_tokens tables text → BeginsAt tables tests 0 (first_place tables text) (first_place tables (text + 1)) (first_place tables text + begin) begin
  begins begin l = let next = rowed.next_first tables text here in let one = alone.one in record {
    at = omega arith;
    inside = omega (arith, next, one, l);
    say = λ n low high. let e : 0 ≡ n = omega (arith, one, high) in subst (λ (k : ℕ). SaysAt tables (test_at tests k) (first_place tables text + begin + k)) e (any_says tables (test_at tests 0) (first_place tables text + begin + 0) alone.any);
  }

  next_one : (many : ℕ) → many < told_tokens tables text → ListsAll row_cmp (IsRowAt tables expr text 0 (first_place tables text + many)) (bare text many ∷ [])
  next_one many l =
      let a = rowed.one_row tables expr tests text are here 0 (first_place tables text + many) 1 many [] (row_from expr text many ∷ []) (begins many l) (omega arith) refl in
      subst (λ (row : Row). ListsAll row_cmp (IsRowAt tables expr text 0 (first_place tables text + many)) (row ∷ [])) (its_row expr text many plain)
      (subst (λ (rows : List Row). ListsAll row_cmp (IsRowAt tables expr text 0 (first_place tables text + many)) rows) (sym a.appended) a.are)

  listed : (many : ℕ) → many ≤ told_tokens tables text → ListsAll row_cmp (λ row. IsRowBelow tables expr text 0 (first_place tables text + many) row) (tokens_of text many)
  listed zero l =
      subst (λ (rows : List Row). ListsAll row_cmp (λ row. IsRowBelow tables expr text 0 (first_place tables text + 0) row) rows) (sym (no_tokens text))
      (subst (λ (bound : ℕ). ListsAll row_cmp (λ row. IsRowBelow tables expr text 0 bound row) []) (let e : first_place tables text ≡ first_place tables text + 0 = omega arith in e)
      (rowed.none_yet tables expr tests text are here 0 one_test))
  listed (suc many) l =
      subst (λ (rows : List Row). ListsAll row_cmp (λ row. IsRowBelow tables expr text 0 (first_place tables text + suc many) row) rows) (sym (one_more text many))
      (subst (λ (bound : ℕ). ListsAll row_cmp (λ row. IsRowBelow tables expr text 0 bound row) (tokens_of text many ++ bare text many ∷ [])) (let e : first_place tables text + many + 1 ≡ first_place tables text + suc many = omega arith in e)
      (rowed.next_place tables expr tests text are here 0 one_test (first_place tables text + many) (first_place tables text + many) (tokens_of text many) (bare text many ∷ []) (omega arith)
      (λ p low early inside says. absurd (omega (arith, low, early))) (listed many (omega (arith, l))) (next_one many (omega (arith, l)))))

  all_of : ListsAll row_cmp (λ row. IsRowOfText (told tables text) expr text row) (tokens_of text (told_tokens tables text))
  all_of = let next = rowed.next_first tables text here in
      rowed.all_rows tables expr tests text are here 0 one_test (first_place tables text + told_tokens tables text) (tokens_of text (told_tokens tables text))
      (λ p low high inside says. absurd (omega (arith, low, high, next))) (listed (told_tokens tables text) (omega arith))

  pub each_token : (many room : ℕ) (old new : List Row) → first_place tables text + many ≡ first_place tables (text + 1) → many ≤ room → new ≡ old ++ tokens_of text many → Appends (IsRowOfText (told tables text) expr text) room old new
  each_token many room old new at fits e =
      let next = rowed.next_first tables text here in
      let same : many ≡ told_tokens tables text = omega (arith, at, next) in
      let long = so_many text many in
      record {
        rows = tokens_of text many;
        are = subst (λ (n : ℕ). ListsAll row_cmp (λ row. IsRowOfText (told tables text) expr text row) (tokens_of text n)) (sym same) all_of;
        within = omega (arith, long, fits);
        appended = e;
      }

  pub too_long : (many room : ℕ) → first_place tables text + many ≡ first_place tables (text + 1) → room < many → HasLonger (IsRowOfText (told tables text) expr text) room
  too_long many room at l =
      let next = rowed.next_first tables text here in
      let long = so_many text (told_tokens tables text) in
      record { rows = tokens_of text (told_tokens tables text); ascending = all_of.ascending; only = all_of.only; more = omega (arith, long, at, next, l) }
