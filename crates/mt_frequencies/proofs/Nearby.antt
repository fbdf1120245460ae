-- The values that tables tell near a span are the values near it.
use Rattle.std.proofs.Common.{◌≡◌, ℕ, zero, suc, ◌+◌, ◌-◌, ◌<◌, ◌≤◌, ◌⊎◌, inl, inr, Bool, true, false, cond, nat_lt, ℤ, pos, negsuc, List, [], ◌∷◌, length, map, get_or, slice_get, None, Some, refl, sym, ◌∙◌, ap, ap₂, subst, arith}
use Rattle.std.specs.List.{AllByRecursion, All, cons_option}
use Rattle.std.proofs.lemmas.Bool.{cases_lt}
use Rattle.std.proofs.lemmas.List.{length-map}
use Rattle.std.proofs.lemmas.Option.{get_or_from_slice_get, slice_get-get_or}
use Rattle.mt_text_spec.specs.Registries.{Registry}
use Rattle.mt_text_spec.specs.Texts.{Span, Text}
use Rattle.mt_match_spec.specs.Values.{Images, value_at}
use Rattle.mt_segment_spec.specs.Tables.{Tables, first_place}
use Rattle.mt_segment_laws.specs.Laws.{NumbersStandForValues, TokensStandInTexts}
use Rattle.mt_corpus_spec.specs.Groups.{Group, all_texts, corpus_of}
use Rattle.mt_report_spec.specs.Held.{LieInSome, LiesIn, StandFor}
use Rattle.mt_report_spec.specs.Near.{Near, last_token, places_at, values_by, values_near}
use Rattle.mt_reports.specs.Told.{told_tokens, told_value}
use Rattle.mt_reports.proofs.Found.{found}
use Rattle.mt_reports.proofs.Spans.{IsIn, IsThere}
use Rattle.mt_reports.proofs.Told.{tokens_told, value_told}
use Rattle.mt_frequencies.proofs.Placed.{not_less}

-- ## Places lie in the text

kept_in : (tokens place : ℕ) (rest : List ℕ) (b : Bool) → (b ≡ true → place < tokens) → AllByRecursion (λ p. p < tokens) rest → AllByRecursion (λ p. p < tokens) (cons_option (cond b (Some place) None) rest)
kept_in tokens place rest true within all = (within refl, all)
kept_in tokens place rest false within all = all

pub below : (m n : ℕ) → nat_lt m n ≡ true → m < n
below m n e = by (cases_lt m n)
  where
    by : (m < n) ⊎ (n ≤ m) → m < n
    by (inl l) = l
    by (inr l) = let no = not_less m n l in absurd cc

pub places_within : (tokens first last : ℕ) (distances : List ℤ) → first ≤ tokens → AllByRecursion (λ p. p < tokens) (places_at tokens first last distances)
places_within tokens first last [] l = tt
places_within tokens first last (pos n ∷ distances) l =
    kept_in tokens (last + n) (places_at tokens first last distances) (nat_lt (last + n) tokens) (below (last + n) tokens) (places_within tokens first last distances l)
places_within tokens first last (negsuc n ∷ distances) l =
    kept_in tokens (first - (n + 1)) (places_at tokens first last distances) (nat_lt n first) (λ e. let m = below n first e in omega (arith, m, l)) (places_within tokens first last distances l)

same_values : (value other : ℕ → List ℕ) (tokens : ℕ) (places : List ℕ) → AllByRecursion (λ p. p < tokens) places → ((p : ℕ) → p < tokens → value p ≡ other p) → map value places ≡ map other places
same_values value other tokens [] all same = refl
same_values value other tokens (p ∷ ps) all same = ap₂ ◌∷◌ (same p all.0) (same_values value other tokens ps all.1 same)

-- ## A span of the corpus

module _ (stand_for : NumbersStandForValues) (tokens : TokensStandInTexts) (segments : List Tables) (live : List (List ℕ)) where
  pub near_is : (images : Images) (registry : Registry) (groups : List Group) → StandFor images registry groups segments live → (span : Span) (segment before : ℕ) (tables : Tables) (numbers : List ℕ) (number : ℕ) →
      IsThere live span segment before numbers number → tables ≡ get_or segments segment tables → IsIn tables number span → (near : Near) → near.attr < length tables.attrs →
      map (λ place. told_value tables near.attr (first_place tables number + place)) (places_at (told_tokens tables number) span.begin (last_token near span) near.distances) ≡ values_by images registry (corpus_of groups) near span
  near_is images registry groups stand span segment before tables numbers number there_is tables_are inside near l =
      let f = found images registry groups segments live span.text segment before tables numbers number stand there_is.stands tables_are there_is.numbers_are there_is.number_is in
      let none : Text = record { name = []; tokens = []; structs = [] } in
      let own = all_texts (get_or groups segment []) in
      let text = get_or own number none in
      let there : slice_get own number ≡ Some text = slice_get-get_or own number none (omega (arith, inside.text, ap length f.are.texts, length-map {B = List ℕ × ℕ} own (λ (t : Text). (t.name, length t.tokens)))) in
      let count : told_tokens tables number ≡ length text.tokens = tokens_told stand_for tokens images registry own tables stand.valid f.are number text there in
      let declared : near.attr < length registry.attrs = omega (arith, l, f.are.attr_count) in
      ap (λ (n : ℕ). map (λ place. told_value tables near.attr (first_place tables number + place)) (places_at n span.begin (last_token near span) near.distances)) count
      ∙ same_values (λ place. told_value tables near.attr (first_place tables number + place)) (value_at images registry text near.attr) (length text.tokens) (places_at (length text.tokens) span.begin (last_token near span) near.distances)
      (places_within (length text.tokens) span.begin (last_token near span) near.distances (omega (arith, inside.some, inside.inside, count)))
      (λ place m. value_told stand_for tokens images registry own tables stand.valid f.are number text there near.attr place declared m)
      ∙ ap (λ (t : Text). values_near images registry near t span) (sym (get_or_from_slice_get (corpus_of groups) span.text text none (f.there ∙ there)))

-- one span of those that lie in the corpus
pub one_of : (segments : List Tables) (live : List (List ℕ)) (spans : List Span) (i : ℕ) (span : Span) → LieInSome segments live spans → i < length spans → span ≡ get_or spans i span → LieInSome segments live (span ∷ [])
one_of segments live spans i span all l is = record {
  images = all.images;
  registry = all.registry;
  groups = all.groups;
  stand = all.stand;
  lie = one;
}
  where
    lies : LiesIn (corpus_of all.groups) span
    lies = subst (LiesIn (corpus_of all.groups)) (sym is) (all.lie i span l)

    one : All (LiesIn (corpus_of all.groups)) (span ∷ [])
    one zero d m = lies
    one (suc k) d m = absurd (omega arith)

-- a segment has the attribute that all have
pub attr_there : (segments : List Tables) (attr segment : ℕ) (tables : Tables) → All (λ one. attr < length one.attrs) segments → segment < length segments → tables ≡ get_or segments segment tables → attr < length tables.attrs
attr_there segments attr segment tables all l is = subst (λ (one : Tables). attr < length one.attrs) (sym is) (all segment tables l)

pub same_places : (tokens count first begin last behind : ℕ) (distances : List ℤ) → tokens ≡ count → first ≡ begin → last ≡ behind → places_at tokens first last distances ≡ places_at count begin behind distances
same_places tokens count first begin last behind distances e f g =
    ap (λ (n : ℕ). places_at n first last distances) e ∙ ap (λ (n : ℕ). places_at count n last distances) f ∙ ap (λ (n : ℕ). places_at count begin n distances) g
