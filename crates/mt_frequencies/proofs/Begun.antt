-- Spans of one text, and of one segment.
use Rattle.std.proofs.Common.{◌≡◌, ℕ, ◌+◌, ◌-◌, ◌<◌, ◌≤◌, ◌⊎◌, inl, inr, ℤ, List, [], ◌∷◌, length, map, get_or, refl, sym, ◌∙◌, ap, subst, arith}
use Rattle.std.proofs.lemmas.Bool.{cases_lt}
use Rattle.std.proofs.lemmas.List.{get_or_default}
use Rattle.mt_text_spec.specs.Registries.{Registry}
use Rattle.mt_text_spec.specs.Texts.{Span}
use Rattle.mt_match_spec.specs.Values.{Images}
use Rattle.mt_segment_spec.specs.Tables.{Tables, first_place, tables_at}
use Rattle.mt_segment_laws.specs.Laws.{NumbersStandForValues, TokensStandInTexts}
use Rattle.mt_corpus_spec.specs.Groups.{Group, corpus_of}
use Rattle.mt_report_spec.specs.Held.{LieInSome, StandFor}
use Rattle.mt_report_spec.specs.Near.{near_begin, places_at, values_by}
use Rattle.mt_reports.specs.Places.{Stands}
use Rattle.mt_reports.specs.Told.{told_tokens, told_value}
use Rattle.mt_reports.proofs.Spans.{IsIn, IsThere, is_in}
use Rattle.mt_frequencies.specs.declared.distances.Near as looked
use Rattle.mt_frequencies.specs.Amounts.{HasAmounts, values_told}
use Rattle.mt_frequencies.specs.Distances.{AreDistances, near_of}
use Rattle.mt_frequencies.specs.Seen.{AreInside, around_text, places_near, values_in}
use Rattle.mt_frequencies.proofs.Nearby.{near_is}
use Rattle.mt_frequencies.proofs.Runs.{values_are}

-- one span more lies in the text of the first
pub same_text : (spans : List Span) (from to : ℕ) (one : Span) → from < length spans → one ≡ get_or spans to one → to < length spans → one.text ≡ (get_or spans from one).text →
    ((k : ℕ) (span : Span) → from ≤ k → k < to → (get_or spans k span).text ≡ (get_or spans from span).text) → (k : ℕ) (span : Span) → from ≤ k → k < to + 1 → (get_or spans k span).text ≡ (get_or spans from span).text
same_text spans from to one within is at same before k span l m = by (cases_lt k to)
  where
    by : (k < to) ⊎ (to ≤ k) → (get_or spans k span).text ≡ (get_or spans from span).text
    by (inl less) = before k span l less
    by (inr past) =
        let last : k ≡ to = omega (arith, m, past) in
        ap (λ (n : ℕ). (get_or spans n span).text) last ∙ ap (λ (s : Span). s.text) (get_or_default spans to span one at ∙ sym is) ∙ same ∙ ap (λ (s : Span). s.text) (get_or_default spans from one span within)

-- values at places that are moved
moved : (value : ℕ → List ℕ) (first : ℕ) (places : List ℕ) → map (λ place. value (first + place)) places ≡ map value (map (λ place. first + place) places)
moved value first [] = refl
moved value first (place ∷ places) = ap (λ (rest : List (List ℕ)). value (first + place) ∷ rest) (moved value first places)

module _ (stand_for : NumbersStandForValues) (tokens : TokensStandInTexts) (segments : List Tables) (live : List (List ℕ)) (spans : List Span) (lie : LieInSome segments live spans) (segment before first : ℕ) (stands : Stands live first segment before)
    (tables : Tables) (tables_are : tables ≡ get_or segments segment tables) (numbers own_numbers : List ℕ) (slice_is : numbers ≡ own_numbers) (numbers_are : own_numbers ≡ get_or live segment own_numbers) (to : ℕ) (at : to < length spans)
    (one other : Span) (one_is : one ≡ get_or spans to one) (other_is : other ≡ get_or spans to other) (text same_text : ℕ) (text_is : text ≡ one.text) (same_is : same_text ≡ other.text) (behind : before ≤ text) (among : text < before + length numbers) where
  -- a span of the same text stands there
  there : (span : Span) → one.text ≡ span.text → IsThere live span segment before numbers (get_or numbers (same_text - before) 0)
  there span same = record {
    stands = record {
      at = stands.at;
      inside = stands.inside;
      from = omega (arith, behind, text_is, same);
      to = omega (arith, among, text_is, same, ap length (numbers_at ∙ get_or_default live segment numbers [] stands.inside));
    };
    numbers_are = numbers_at;
    number_is = get_or_default numbers (same_text - before) 0 (get_or numbers (same_text - before) 0) within ∙ ap (λ (n : ℕ). get_or numbers (n - before) (get_or numbers (same_text - before) 0)) (as_other ∙ same);
  }
    where
      numbers_at : numbers ≡ get_or live segment numbers
      numbers_at = slice_is ∙ numbers_are ∙ get_or_default live segment own_numbers numbers stands.inside

      as_other : same_text ≡ one.text
      as_other = same_is ∙ ap (λ (s : Span). s.text) (other_is ∙ get_or_default spans to other one at ∙ sym one_is)

      within : same_text - before < length numbers
      within = omega (arith, as_other, text_is, behind, among)

  pub text_in : (get_or numbers (same_text - before) 0) < length tables.texts
  text_in = (is_in stand_for tokens segments live spans lie to one at one_is segment before tables numbers (get_or numbers (same_text - before) 0) (there one refl) tables_are).text

  as_one : (k : ℕ) (span : Span) → (get_or spans k span).text ≡ (get_or spans to span).text → one.text ≡ (get_or spans k span).text
  as_one k span same = ap (λ (s : Span). s.text) (one_is ∙ get_or_default spans to one span at) ∙ sym same

  in_text : (k : ℕ) (span : Span) → k < length spans → (get_or spans k span).text ≡ (get_or spans to span).text → IsIn tables (get_or numbers (same_text - before) 0) (get_or spans k span)
  in_text k span l same =
      let own : Span = get_or spans k span in
      is_in stand_for tokens segments live spans lie k own l (get_or_default spans k span own l) segment before tables numbers (get_or numbers (same_text - before) 0) (there own (as_one k span same)) tables_are

  pub begins_in : (k : ℕ) (span : Span) → to ≤ k → k < length spans → (get_or spans k span).text ≡ (get_or spans to span).text → (get_or spans k span).begin < told_tokens tables (get_or numbers (same_text - before) 0)
  begins_in k span m l same = let own = in_text k span l same in omega (arith, own.some, own.inside)

  pub near_told : (images : Images) (registry : Registry) (groups : List Group) → StandFor images registry groups segments live → (attr : ℕ) (distance : ℤ) → attr < length tables.attrs → (end : ℕ) → end ≤ length spans →
      ((k : ℕ) (span : Span) → to ≤ k → k < end → (get_or spans k span).text ≡ (get_or spans to span).text) →
      (k : ℕ) (span : Span) → to ≤ k → k < end → values_by images registry (corpus_of groups) (near_begin attr distance) (get_or spans k span) ≡ values_told tables attr (get_or numbers (same_text - before) 0) distance (get_or spans k span).begin
  near_told images registry groups stand attr distance l end within same k span m n =
      let own : Span = get_or spans k span in
      let alike = same k span m n in
      sym (near_is stand_for tokens segments live images registry groups stand own segment before tables numbers (get_or numbers (same_text - before) 0) (there own (as_one k span alike)) tables_are (in_text k span (omega (arith, n, within)) alike) (near_begin attr distance) l)
      ∙ moved (told_value tables attr) (first_place tables (get_or numbers (same_text - before) 0)) (places_at (told_tokens tables (get_or numbers (same_text - before) 0)) own.begin own.begin (distance ∷ []))

  pub inside_in : (end : ℕ) → end ≤ length spans → ((k : ℕ) (span : Span) → to ≤ k → k < end → (get_or spans k span).text ≡ (get_or spans to span).text) → AreInside (told_tokens tables (get_or numbers (same_text - before) 0)) to end spans
  inside_in end within same = record {
    some = λ k span m n. (in_text k span (omega (arith, n, within)) (same k span m n)).some;
    inside = λ k span m n. (in_text k span (omega (arith, n, within)) (same k span m n)).inside;
  }

  pub near_windows : (images : Images) (registry : Registry) (groups : List Group) → StandFor images registry groups segments live → (near : looked.Near) → AreDistances near.distances → near.attr < length tables.attrs → (end : ℕ) → end ≤ length spans →
      ((k : ℕ) (span : Span) → to ≤ k → k < end → (get_or spans k span).text ≡ (get_or spans to span).text) →
      (k : ℕ) (span : Span) → to ≤ k → k < end → values_by images registry (corpus_of groups) (near_of near) (get_or spans k span) ≡ values_in tables near.attr (places_near (around_text tables (get_or numbers (same_text - before) 0) near.distances) (get_or spans k span))
  near_windows images registry groups stand near distances l end within same k span m n =
      let own : Span = get_or spans k span in
      let alike = same k span m n in
      sym (near_is stand_for tokens segments live images registry groups stand own segment before tables numbers (get_or numbers (same_text - before) 0) (there own (as_one k span alike)) tables_are (in_text k span (omega (arith, n, within)) alike) (near_of near) l)
      ∙ values_are tables near.attr (get_or numbers (same_text - before) 0) near.distances own distances

-- what was counted, by the lexicon and the counts at hand
pub amounts_as : (near : Span → List (List ℕ)) (spans : List Span) (from to segment attr : ℕ) (segments : List Tables) (tables : Tables) (lexicon : List (List ℕ)) (counts slice : List ℕ) → tables ≡ get_or segments segment tables → lexicon ≡ (tables_at tables.attrs attr).lexicon → slice ≡ counts →
    HasAmounts (tables_at (get_or segments segment tables).attrs attr).lexicon near spans from to counts → HasAmounts lexicon near spans from to slice
amounts_as near spans from to segment attr segments tables lexicon counts slice tables_are lexicon_is slice_is amounts =
    subst (λ (cs : List ℕ). HasAmounts lexicon near spans from to cs) (sym slice_is)
    (subst (λ (words : List (List ℕ)). HasAmounts words near spans from to counts) (ap (λ (t : Tables). (tables_at t.attrs attr).lexicon) (sym tables_are) ∙ sym lexicon_is) amounts)
