-- The line of a span of the corpus is what the tables tell of a text of a segment.
use Rattle.std.proofs.Common.{◌≡◌, ℕ, ◌+◌, ◌-◌, ◌<◌, ◌≤◌, List, [], ◌++◌, ◌∷◌, length, map, take, get_or, slice_get, Some, sym, ◌∙◌, ap, subst, append_assoc, arith}
use Rattle.std.specs.List.{flat_map}
use Rattle.std.proofs.lemmas.List.{append-nil, length-map, map_more}
use Rattle.std.proofs.lemmas.List.Concat.{flat_map-append}
use Rattle.std.proofs.lemmas.Option.{slice_get_within, get_or_from_slice_get, slice_get-get_or}
use Rattle.mt_text_spec.specs.Lines.{closed}
use Rattle.mt_text_spec.specs.Registries.{Registry}
use Rattle.mt_text_spec.specs.Texts.{Span, Text}
use Rattle.mt_match_spec.specs.Values.{Images}
use Rattle.mt_segment_spec.specs.Tables.{Tables}
use Rattle.mt_segment_laws.specs.Laws.{NumbersStandForValues, TokensStandInTexts}
use Rattle.mt_corpus_spec.specs.Groups.{Group, all_texts, corpus_of}
use Rattle.mt_report_spec.specs.Held.{LieInSome, LiesIn, StandFor, live_numbers}
use Rattle.mt_report_spec.specs.Lines.{query_line, text_line}
use Rattle.mt_reports.specs.Places.{Stands, texts_of}
use Rattle.mt_reports.specs.Told.{told_line, told_tokens}
use Rattle.mt_reports.proofs.Found.{found, total_live, zip_length}
use Rattle.mt_reports.proofs.Told.{line_told, tokens_told}

-- a span lies in the text with this number of a segment
pub record IsIn (tables : Tables) (number : ℕ) (span : Span) : Type 0 where
  pub text : number < length tables.texts
  pub some : span.begin < span.end
  pub inside : span.end ≤ told_tokens tables number

lies : (segments : List Tables) (live : List (List ℕ)) (spans : List Span) (all : LieInSome segments live spans) (i : ℕ) (span : Span) → i < length spans → span ≡ get_or spans i span → LiesIn (corpus_of all.groups) span
lies segments live spans all i span l is = subst (LiesIn (corpus_of all.groups)) (sym is) (all.lie i span l)

-- its text is among the live ones
pub text_below : (segments : List Tables) (live : List (List ℕ)) (spans : List Span) → LieInSome segments live spans → (i : ℕ) (span : Span) → i < length spans → span ≡ get_or spans i span → span.text < texts_of live
text_below segments live spans all i span l is =
    let lie = lies segments live spans all i span l is in
    let within = slice_get_within (corpus_of all.groups) span.text lie.text lie.there in
    let same = ap texts_of all.stand.marks in
    omega (arith, within, same, total_live all.groups)

-- a span's text was found: where it stands, and its number in its segment
pub record IsThere (live : List (List ℕ)) (span : Span) (segment before : ℕ) (numbers : List ℕ) (number : ℕ) : Type 0 where
  pub stands : Stands live span.text segment before
  pub numbers_are : numbers ≡ get_or live segment numbers
  pub number_is : number ≡ get_or numbers (span.text - before) number

pub is_there : (live slice : List (List ℕ)) (span : Span) (text same segment before : ℕ) (numbers : List ℕ) (number : ℕ) → slice ≡ live → text ≡ span.text → same ≡ span.text → Stands slice text segment before →
    numbers ≡ get_or live segment numbers → number ≡ get_or numbers (same - before) number → IsThere live span segment before numbers number
is_there live slice span text same segment before numbers number slice_is text_is same_is stands numbers_are number_is = record {
  stands = subst (λ (n : ℕ). Stands live n segment before) text_is (subst (λ (l : List (List ℕ)). Stands l text segment before) slice_is stands);
  numbers_are = numbers_are;
  number_is = number_is ∙ ap (λ (n : ℕ). get_or numbers (n - before) number) same_is;
}

-- there is a segment for it
pub has_segment : (segments : List Tables) (live : List (List ℕ)) (spans : List Span) → LieInSome segments live spans → (segment : ℕ) → segment < length live → segment < length segments
has_segment segments live spans all segment l = omega (arith, l, ap length all.stand.marks, length-map all.groups (live_numbers 0), zip_length _ all.groups segments all.stand.tables)

module _ (stand_for : NumbersStandForValues) (tokens : TokensStandInTexts) (segments : List Tables) (live : List (List ℕ)) where
  pub is_in : (spans : List Span) → LieInSome segments live spans → (i : ℕ) (span : Span) → i < length spans → span ≡ get_or spans i span →
      (segment before : ℕ) (tables : Tables) (numbers : List ℕ) (number : ℕ) → IsThere live span segment before numbers number → tables ≡ get_or segments segment tables → IsIn tables number span
  is_in spans all i span l is segment before tables numbers number there_is tables_are =
      let lie = lies segments live spans all i span l is in
      let f = found all.images all.registry all.groups segments live span.text segment before tables numbers number all.stand there_is.stands tables_are there_is.numbers_are there_is.number_is in
      let there : slice_get (all_texts (get_or all.groups segment [])) number ≡ Some lie.text = sym f.there ∙ lie.there in
      record {
        text = omega (arith, slice_get_within (all_texts (get_or all.groups segment [])) number lie.text there, ap length f.are.texts, length-map {B = List ℕ × ℕ} (all_texts (get_or all.groups segment [])) (λ (t : Text). (t.name, length t.tokens)));
        some = lie.some;
        inside = omega (arith, lie.inside, tokens_told stand_for tokens all.images all.registry (all_texts (get_or all.groups segment [])) tables all.stand.valid f.are number lie.text there);
      }

  pub line_is : (images : Images) (registry : Registry) (groups : List Group) → StandFor images registry groups segments live → (span : Span) (segment before : ℕ) (tables : Tables) (numbers : List ℕ) (number : ℕ) →
      IsThere live span segment before numbers number → tables ≡ get_or segments segment tables → IsIn tables number span → told_line tables number span.begin span.end ≡ query_line images registry (corpus_of groups) span
  line_is images registry groups stand span segment before tables numbers number there_is tables_are inside =
      let f = found images registry groups segments live span.text segment before tables numbers number stand there_is.stands tables_are there_is.numbers_are there_is.number_is in
      let none : Text = record { name = []; tokens = []; structs = [] } in
      let own = all_texts (get_or groups segment []) in
      let text = get_or own number none in
      let there : slice_get own number ≡ Some text = slice_get-get_or own number none (omega (arith, inside.text, ap length f.are.texts, length-map {B = List ℕ × ℕ} own (λ (t : Text). (t.name, length t.tokens)))) in
      line_told stand_for tokens images registry own tables stand.valid f.are number text there span.begin span.end (omega (arith, inside.some)) inside.inside
      ∙ ap (λ (t : Text). text_line images registry t span.begin span.end) (sym (get_or_from_slice_get (corpus_of groups) span.text text none (f.there ∙ there)))

  -- one line more
  pub lines_more : (images : Images) (registry : Registry) (groups : List Group) → StandFor images registry groups segments live → (spans : List Span) (i : ℕ) (span : Span) (old out new : List ℕ) (segment before : ℕ) (tables : Tables) (numbers : List ℕ) (number : ℕ) →
      i < length spans → span ≡ get_or spans i span → IsThere live span segment before numbers number → tables ≡ get_or segments segment tables → IsIn tables number span → out ≡ old ++ flat_map closed (map (query_line images registry (corpus_of groups)) (take i spans)) → new ≡ out ++ closed (told_line tables number span.begin span.end) →
      new ≡ old ++ flat_map closed (map (query_line images registry (corpus_of groups)) (take (i + 1) spans))
  lines_more images registry groups stand spans i span old out new segment before tables numbers number l is there_is tables_are inside out_is new_is =
      let line = query_line images registry (corpus_of groups) in
      let told = line_is images registry groups stand span segment before tables numbers number there_is tables_are inside in
      let front = flat_map closed (map line (take i spans)) in
      new_is ∙ ap (λ (bytes : List ℕ). bytes ++ closed (told_line tables number span.begin span.end)) out_is
      ∙ ap (λ (one : List ℕ). (old ++ front) ++ closed one) (told ∙ ap line is)
      ∙ append_assoc old front (closed (line (get_or spans i span)))
      ∙ ap (λ (bytes : List ℕ). old ++ bytes) (sym (
      ap (flat_map closed) (map_more line spans i span l)
      ∙ flat_map-append closed (map line (take i spans)) (line (get_or spans i span) ∷ [])
      ∙ ap (λ (bytes : List ℕ). front ++ bytes) (append-nil (closed (line (get_or spans i span))))))
