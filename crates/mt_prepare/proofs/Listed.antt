-- The places that posting lists have.
use Rattle.std.proofs.Common.{◌≡◌, ℕ, zero, suc, ◌∷◌, ◌+◌, ◌/◌, ◌<◌, ◌≤◌, ◌⊎◌, List, [], length, map, sum, get_or, slice_get, Option, None, Some, refl, sym, ◌∙◌, ap, subst, inl, inr, arith}
use Rattle.std.specs.List.{All, Contains}
use Rattle.std.specs.Ordering.{nat_cmp}
use Rattle.std.specs.Cmp.Lexicographic.{slice_cmp, nat_list_cmp_total}
use Rattle.std.specs.declared.cmp.Ordering.TheVariants.{Equal}
use Rattle.std.proofs.lemmas.Bool.{cases_eq, cases_lt}
use Rattle.std.proofs.lemmas.Cmp.{tied_itself}
use Rattle.std.proofs.lemmas.List.{length-map}
use Rattle.std.proofs.lemmas.List.Concat.{length-flat_map}
use Rattle.std.proofs.lemmas.List.Elements.{All-contains}
use Rattle.std.proofs.lemmas.List.Sums.{sum-map}
use Rattle.std.proofs.lemmas.Option.{slice_get_within, slice_get-get_or, get_or_from_slice_get}
use Rattle.std.proofs.lemmas.Simd.{map-map}
use Rattle.mt_text_spec.specs.Registries.{Registry}
use Rattle.mt_text_spec.specs.Texts.{Text, tokens_of, total_tokens}
use Rattle.mt_store_spec.specs.Lexicons.{IsBelow, IsAscending}
use Rattle.mt_places.specs.Places.{In, HasJust, FirstFrom}
use Rattle.mt_segment_spec.specs.Tables.{Tables, AreTables, AreTablesOf, ArePlacesOf, HaveValues, attr_at, attr_value, attr_values, heads_of, number_at, tables_at, token_count}
use Rattle.mt_segment_laws.specs.Laws.{NumbersStandForValues}
use Rattle.mt_prepare.specs.TestRows.{IsRow, NumberIsIn, AreNumbers, IsListedBelow}

-- ## Values and how many there are

not_below_itself : (a : List ℕ) → IsBelow a a → ⊥
not_below_itself a h = let e : slice_cmp nat_cmp a a ≡ Equal = tied_itself nat_list_cmp_total a in cc

-- a value stands once in a lexicon
never : (lexicon : List (List ℕ)) (value : List ℕ) → IsAscending lexicon → (k m : ℕ) → k < m → slice_get lexicon k ≡ Some value → slice_get lexicon m ≡ Some value → ⊥
never lexicon value up k m l at_k at_m =
    let low : IsBelow (get_or lexicon k []) (get_or lexicon m []) = up k m [] l (slice_get_within lexicon m value at_m) in
    not_below_itself value
    (subst (λ (v : List ℕ). IsBelow v value) (get_or_from_slice_get lexicon k value [] at_k) (subst (IsBelow (get_or lexicon k [])) (get_or_from_slice_get lexicon m value [] at_m) low))

one_number : (lexicon : List (List ℕ)) (value : List ℕ) → IsAscending lexicon → (i j : ℕ) → slice_get lexicon i ≡ Some value → slice_get lexicon j ≡ Some value → i ≡ j
one_number lexicon value up i j at_i at_j = elim (cases_lt i j) [
  | inl l ↦ absurd (never lexicon value up i j l at_i at_j)
  | inr g ↦ elim (cases_lt j i) [ inl l ↦ absurd (never lexicon value up j i l at_j at_i) | inr h ↦ omega (arith, g, h) ]
]

pub tokens_are : (corpus : List Text) (tables : Tables) → tables.texts ≡ heads_of corpus → token_count tables ≡ total_tokens corpus
tokens_are corpus tables e =
    ap (λ (heads : List (List ℕ × ℕ)). sum (map (λ head. head.1) heads)) e ∙ ap sum (map-map (λ (head : List ℕ × ℕ). head.1) (λ (text : Text). (text.name, length text.tokens)) corpus)

many : (images : List ℕ → List ℕ → List ℕ) (registry : Registry) (corpus : List Text) (number : ℕ) → length (attr_values images registry corpus number) ≡ total_tokens corpus
many images registry corpus number =
    length-map (tokens_of corpus) (attr_value images registry number) ∙ length-flat_map (λ (text : Text). text.tokens) corpus ∙ sym (sum-map (λ (text : Text). length text.tokens) corpus)

have : (images : List ℕ → List ℕ → List ℕ) (registry : Registry) (corpus : List Text) (tables : Tables) → AreTablesOf images registry corpus tables → (number : ℕ) → number < length registry.attrs
    → HaveValues (attr_values images registry corpus number) (tables_at tables.attrs number)
have images registry corpus tables are number l = by (attr_at registry number).base refl
  where
    by : (base : Option ℕ) → (attr_at registry number).base ≡ base → HaveValues (attr_values images registry corpus number) (tables_at tables.attrs number)
    by None none = (are.bases number l none).have
    by (Some base) some = (are.mapped number base l some).have

-- ## A value's places are those where its number stands

pub record ListsPlaces (tables : Tables) (attr id : ℕ) : Type 0 where
  pub on : (place : ℕ) → Contains (get_or (tables_at tables.attrs attr).postings id []) place → (place < token_count tables) × (number_at tables attr place ≡ id)
  pub back : (place : ℕ) → place < token_count tables → number_at tables attr place ≡ id → Contains (get_or (tables_at tables.attrs attr).postings id []) place

pub lists_places : NumbersStandForValues → (tables : Tables) → AreTables tables → (attr : ℕ) → attr < length tables.attrs → (id : ℕ) → id < length (tables_at tables.attrs attr).lexicon → ListsPlaces tables attr id
lists_places law tables known attr l id low =
    let under = known.under in
    let by = under.by in
    let values : List (List ℕ) = attr_values under.images known.registry by.corpus attr in
    let lexicon : List (List ℕ) = (tables_at tables.attrs attr).lexicon in
    let value : List ℕ = get_or lexicon id [] in
    let its : HaveValues values (tables_at tables.attrs attr) = have under.images known.registry by.corpus tables by.are attr (omega (arith, l, by.are.attr_count)) in
    let here : slice_get lexicon id ≡ Some value = slice_get-get_or lexicon id [] low in
    let places : ArePlacesOf value values (get_or (tables_at tables.attrs attr).postings id []) = its.postings.each id value here in
    let long : length values ≡ token_count tables = many under.images known.registry by.corpus attr ∙ sym (tokens_are by.corpus tables by.are.texts) in
    let stands = law under.images known.registry by.corpus tables by.valid by.are attr in
    record {
      on = λ place c.
          let is : slice_get values place ≡ Some value = All-contains (λ (p : ℕ). slice_get values p ≡ Some value) (get_or (tables_at tables.attrs attr).postings id []) place places.each c in
          let within : place < length values = slice_get_within values place value is in
          let inside : place < token_count tables = omega (arith, within, long) in
          (inside, one_number lexicon value its.lexicon.ascending (number_at tables attr place) id (stands place l inside ∙ ap Some (get_or_from_slice_get values place value [] is)) here);
      back = λ place inside e.
          let within : place < length values = omega (arith, inside, long) in
          let same : Some (get_or values place []) ≡ Some value = sym (stands place l inside) ∙ ap (slice_get lexicon) e ∙ here in
          places.all place (slice_get-get_or values place [] within ∙ same);
    }

-- ## List after list

pub no_list : (tables : Tables) (attr : ℕ) (numbers row : List ℕ) → ((place : ℕ) → In row place → ⊥) → HasJust (IsListedBelow tables attr numbers 0) row
no_list tables attr numbers row none = record { sound = λ k i. absurd (none k i); complete = λ k p lt. absurd (omega (arith, p.below)) }

pub next_list : (tables : Tables) (attr : ℕ) (numbers old new : List ℕ) (next id : ℕ) → HasJust (IsListedBelow tables attr numbers next) old → FirstFrom numbers next id
    → length new ≡ length old → HasJust (λ place. In old place ⊎ Contains (get_or (tables_at tables.attrs attr).postings id []) place) new
    → HasJust (IsListedBelow tables attr numbers (id + 1)) new
next_list tables attr numbers old new next id was first same now = record {
  sound = λ k i. elim (now.sound k i) [
    | inl o ↦ let b = was.sound k o in record { number = b.number; below = omega (arith, b.below, first.from); is_in = b.is_in; listed = b.listed }
    | inr c ↦ record { number = id; below = omega arith; is_in = first.is_in; listed = c }
  ];
  complete = λ k p lt. elim (cases_lt p.number next) [
    | inl low ↦ now.complete k (inl (was.complete k (record { number = p.number; below = low; is_in = p.is_in; listed = p.listed }) (omega (arith, lt, same)))) lt
    | inr high ↦ elim (cases_eq p.number id) [
      | inl e ↦ now.complete k (inr (subst (λ (n : ℕ). Contains (get_or (tables_at tables.attrs attr).postings n []) k) e p.listed)) lt
      | inr other ↦ absurd (first.none_before p.number high (omega (arith, p.below, other)) p.is_in)
    ]
  ];
}

-- when no number is left, the row has each place whose number is in the set
pub all_listed : NumbersStandForValues → (tables : Tables) → AreTables tables → (attr : ℕ) → attr < length tables.attrs → (numbers row : List ℕ) (next : ℕ) → AreNumbers tables attr numbers
    → ((place : ℕ) → place < token_count tables → number_at tables attr place < length (tables_at tables.attrs attr).lexicon)
    → ((n : ℕ) → next ≤ n → In numbers n → ⊥) → length row ≡ token_count tables / 64 + 1 → HasJust (IsListedBelow tables attr numbers next) row
    → IsRow (token_count tables) (NumberIsIn tables attr numbers) row
all_listed law tables known attr l numbers row next are low none width just = record {
  width = width;
  places = record {
    sound = λ k i.
        let b = just.sound k i in
        let p = (lists_places law tables known attr l b.number (are b.number b.is_in)).on k b.listed in
        (p.0, subst (In numbers) (sym p.1) b.is_in);
    complete = λ k p lt. just.complete k
        (record {
          number = number_at tables attr k;
          below = elim (cases_lt (number_at tables attr k) next) [ inl lt ↦ lt | inr high ↦ absurd (none (number_at tables attr k) high p.1) ];
          is_in = p.1;
          listed = (lists_places law tables known attr l (number_at tables attr k) (low k p.0)).back k p.0 refl;
        }) lt;
  };
}

-- a posting list has its places in the row
pub list_fits : NumbersStandForValues → (tables : Tables) → AreTables tables → (attr : ℕ) → attr < length tables.attrs → (id : ℕ) → id < length (tables_at tables.attrs attr).lexicon
    → (limit : ℕ) → token_count tables ≤ limit → All (λ place. place < limit) (get_or (tables_at tables.attrs attr).postings id [])
list_fits law tables known attr l id low limit fits = λ k d lt.
    let list : List ℕ = get_or (tables_at tables.attrs attr).postings id [] in
    let p = (lists_places law tables known attr l id low).on (get_or list k d) (k, lt, same_default list k d lt) in
    omega (arith, p.0, fits)
  where
    same_default : (list : List ℕ) (k d : ℕ) → k < length list → get_or list k (get_or list k d) ≡ get_or list k d
    same_default list k d lt = let a = slice_get-get_or list k d lt in get_or_from_slice_get list k (get_or list k d) (get_or list k d) a

-- ## A list from its front

pub first_left : (old new : List ℕ) (p : ℕ) → old ≡ p ∷ new → Contains old p
first_left old new p e = subst (λ (xs : List ℕ). Contains xs p) (sym e) (0, omega arith, refl)

pub left_of : (old new : List ℕ) (p x : ℕ) → old ≡ p ∷ new → Contains new x → Contains old x
left_of old new p x e c = subst (λ (xs : List ℕ). Contains xs x) (sym e) (suc c.0, omega (arith, c.1), c.2)

pub first_or_left : (old new : List ℕ) (p x : ℕ) → old ≡ p ∷ new → Contains old x → (x ≡ p) ⊎ Contains new x
first_or_left old new p x e c = by (subst (λ (xs : List ℕ). Contains xs x) e c)
  where
    at : (k : ℕ) → k < length (p ∷ new) → get_or (p ∷ new) k x ≡ x → (x ≡ p) ⊎ Contains new x
    at zero l is = inl (sym is)
    at (suc k) l is = inr (k, omega (arith, l), is)

    by : Contains (p ∷ new) x → (x ≡ p) ⊎ Contains new x
    by f = at f.0 f.1 f.2
