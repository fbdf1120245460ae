-- The places that a posting list has.
use Rattle.std.proofs.Common.{◌≡◌, ℕ, ◌<◌, List, [], length, map, sum, get_or, slice_get, Option, None, Some, refl, sym, ◌∙◌, ap, subst, inl, inr, arith}
use Rattle.std.specs.Ordering.{nat_cmp}
use Rattle.std.specs.Cmp.Lexicographic.{slice_cmp, nat_list_cmp_total}
use Rattle.std.specs.declared.cmp.Ordering.TheVariants.{Equal}
use Rattle.std.proofs.lemmas.Bool.{cases_lt}
use Rattle.std.proofs.lemmas.Cmp.{tied_itself}
use Rattle.std.proofs.lemmas.List.{length-map}
use Rattle.std.proofs.lemmas.List.Concat.{length-flat_map}
use Rattle.std.proofs.lemmas.List.Elements.{All-contains}
use Rattle.std.proofs.lemmas.List.Sums.{sum-map}
use Rattle.std.proofs.lemmas.Option.{slice_get_within, slice_get-get_or, get_or_from_slice_get}
use Rattle.std.proofs.lemmas.Simd.{map-map}
use Rattle.mt_text_spec.specs.Registries.{Registry}
use Rattle.mt_text_spec.specs.Texts.{Text, tokens_of, total_tokens}
use Rattle.mt_store_spec.specs.Lexicons.{IsBelow, IsAscending}
use Rattle.mt_segment_spec.specs.Tables.{Tables, AreTablesOf, ArePlacesOf, HaveValues, attr_at, attr_value, attr_values, heads_of, number_at, tables_at, token_count}
use Rattle.mt_segment_laws.specs.Laws.{NumbersStandForValues}
use Rattle.mt_eval_laws.specs.Laws.{PlacesAreListed}

-- ## Values and how many there are

not_below_itself : (a : List ℕ) → IsBelow a a → ⊥
not_below_itself a h = let e : slice_cmp nat_cmp a a ≡ Equal = tied_itself nat_list_cmp_total a in cc

-- a value stands once in a lexicon
never : (lexicon : List (List ℕ)) (value : List ℕ) → IsAscending lexicon → (k m : ℕ) → k < m → slice_get lexicon k ≡ Some value → slice_get lexicon m ≡ Some value → ⊥
never lexicon value up k m l at_k at_m =
    let low : IsBelow (get_or lexicon k []) (get_or lexicon m []) = up k m [] l (slice_get_within lexicon m value at_m) in
    not_below_itself value
    (subst (λ (v : List ℕ). IsBelow v value) (get_or_from_slice_get lexicon k value [] at_k) (subst (IsBelow (get_or lexicon k [])) (get_or_from_slice_get lexicon m value [] at_m) low))

one_number : (lexicon : List (List ℕ)) (value : List ℕ) → IsAscending lexicon → (i j : ℕ) → slice_get lexicon i ≡ Some value → slice_get lexicon j ≡ Some value → i ≡ j
one_number lexicon value up i j at_i at_j = elim (cases_lt i j) [
  | inl l ↦ absurd (never lexicon value up i j l at_i at_j)
  | inr g ↦ elim (cases_lt j i) [ inl l ↦ absurd (never lexicon value up j i l at_j at_i) | inr h ↦ omega (arith, g, h) ]
]

pub tokens_are : (corpus : List Text) (tables : Tables) → tables.texts ≡ heads_of corpus → token_count tables ≡ total_tokens corpus
tokens_are corpus tables e =
    ap (λ (heads : List (List ℕ × ℕ)). sum (map (λ head. head.1) heads)) e ∙ ap sum (map-map (λ (head : List ℕ × ℕ). head.1) (λ (text : Text). (text.name, length text.tokens)) corpus)

many : (images : List ℕ → List ℕ → List ℕ) (registry : Registry) (corpus : List Text) (number : ℕ) → length (attr_values images registry corpus number) ≡ total_tokens corpus
many images registry corpus number =
    length-map (tokens_of corpus) (attr_value images registry number) ∙ length-flat_map (λ (text : Text). text.tokens) corpus ∙ sym (sum-map (λ (text : Text). length text.tokens) corpus)

have : (images : List ℕ → List ℕ → List ℕ) (registry : Registry) (corpus : List Text) (tables : Tables) → AreTablesOf images registry corpus tables → (number : ℕ) → number < length registry.attrs
    → HaveValues (attr_values images registry corpus number) (tables_at tables.attrs number)
have images registry corpus tables are number l = by (attr_at registry number).base refl
  where
    by : (base : Option ℕ) → (attr_at registry number).base ≡ base → HaveValues (attr_values images registry corpus number) (tables_at tables.attrs number)
    by None none = (are.bases number l none).have
    by (Some base) some = (are.mapped number base l some).have

-- ## A value's places are those where its number stands

pub places_are_listed : NumbersStandForValues → PlacesAreListed
places_are_listed law tables attr id known l low =
    let under = known.under in
    let by = under.by in
    let values : List (List ℕ) = attr_values under.images known.registry by.corpus attr in
    let lexicon : List (List ℕ) = (tables_at tables.attrs attr).lexicon in
    let value : List ℕ = get_or lexicon id [] in
    let its : HaveValues values (tables_at tables.attrs attr) = have under.images known.registry by.corpus tables by.are attr (omega (arith, l, by.are.attr_count)) in
    let here : slice_get lexicon id ≡ Some value = slice_get-get_or lexicon id [] low in
    let places : ArePlacesOf value values (get_or (tables_at tables.attrs attr).postings id []) = its.postings.each id value here in
    let long : length values ≡ token_count tables = many under.images known.registry by.corpus attr ∙ sym (tokens_are by.corpus tables by.are.texts) in
    let stands = law under.images known.registry by.corpus tables by.valid by.are attr in
    record {
      ascending = places.ascending;
      on = λ place c.
          let is : slice_get values place ≡ Some value = All-contains (λ (p : ℕ). slice_get values p ≡ Some value) (get_or (tables_at tables.attrs attr).postings id []) place places.each c in
          let within : place < length values = slice_get_within values place value is in
          let inside : place < token_count tables = omega (arith, within, long) in
          (inside, one_number lexicon value its.lexicon.ascending (number_at tables attr place) id (stands place l inside ∙ ap Some (get_or_from_slice_get values place value [] is)) here);
      back = λ place inside e.
          let within : place < length values = omega (arith, inside, long) in
          let same : Some (get_or values place []) ≡ Some value = sym (stands place l inside) ∙ ap (slice_get lexicon) e ∙ here in
          places.all place (slice_get-get_or values place [] within ∙ same);
    }
