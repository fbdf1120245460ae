-- The tables of the texts of two corpora.
use Rattle.std.proofs.Common.{◌≡◌, ℕ, ◌+◌, ◌-◌, ◌<◌, ◌≤◌, false, true≢false, List, [], ◌++◌, length, length-append, map, get_or, slice_get, Option, None, Some, refl, sym, ◌∙◌, ap, ap₂, subst, arith, ◌⊎◌, inl, inr}
use Rattle.std.specs.List.{Contains, filter, position_or_len}
use Rattle.std.specs.List.Sorted.{IsStrictlyIncreasing}
use Rattle.std.specs.Option.{option_map}
use Rattle.std.specs.Str.{bytes_eq}
use Rattle.std.specs.Cmp.Lexicographic.{bytes_decides}
use Rattle.std.proofs.lemmas.Bool.{cases_lt}
use Rattle.std.proofs.lemmas.List.{length-map, map-append, get_or-map, get_or_append_left, get_or-append_right, get_or_past, same_lists}
use Rattle.std.proofs.lemmas.List.Concat.{flat_map-append}
use Rattle.std.proofs.lemmas.List.Elements.{All-nil, All-append, All-map, All-contains, All-weaker, Contains-append_left, Contains-append_right, Contains-append_cases}
use Rattle.std.proofs.lemmas.List.Sums.{fails_before_first, passes_at_first}
use Rattle.std.proofs.lemmas.Option.{slice_get-get_or, slice_get-map, slice_get_within, get_or_from_slice_get}
use Rattle.mt_text_spec.specs.Registries.{Registry, ValidRegistry}
use Rattle.mt_text_spec.specs.Texts.{Text, tokens_of}
use Rattle.mt_store_spec.specs.Lexicons.{Renumbers}
use Rattle.mt_segment_spec.specs.Tables.{AttrTables, Tables, ArePlacesOf, AreBaseTables, AreMappedTables, AreTablesOf, HaveValues, attr_at, attr_value, attr_values, is_of_kind, tables_at, token_count}
use Rattle.mt_segment_laws.specs.Both.{AreAttrsOfBoth, AreNumbersOfBoth, AreTablesOfBoth, GoesOver, numbered, places_of}
use Rattle.mt_segment_laws.specs.Laws.{BothHaveTables}
use Rattle.mt_segment_laws.proofs.Known.{values_long}
use Rattle.mt_segment_laws.proofs.Parts.{slice_get_left, slice_get_right}
use Rattle.mt_segment_laws.proofs.Values.{base_is, based, have}

-- ---- places

contains_map : (f : ℕ → ℕ) (xs : List ℕ) (x : ℕ) → Contains xs x → Contains (map f xs) (f x)
contains_map f xs x (k, l, e) = (k, omega (arith, length-map xs f), get_or-map f xs k x (f x) l ∙ ap f e)

-- the places of any value, also one that the lexicon lacks
are_places : (values : List (List ℕ)) (tables : AttrTables) (value : List ℕ) → HaveValues values tables → ArePlacesOf value values (places_of tables value)
are_places values tables value has = by (cases_lt (position_or_len (bytes_eq value) tables.lexicon) (length tables.lexicon))
  where
    by : (position_or_len (bytes_eq value) tables.lexicon < length tables.lexicon) ⊎ (length tables.lexicon ≤ position_or_len (bytes_eq value) tables.lexicon) → ArePlacesOf value values (places_of tables value)
    by (inl l) =
        let at = position_or_len (bytes_eq value) tables.lexicon in
        let is : value ≡ get_or tables.lexicon at [] = (bytes_decides value (get_or tables.lexicon at [])).0 (passes_at_first (bytes_eq value) tables.lexicon [] l) in
        subst (λ (v : List ℕ). ArePlacesOf v values (get_or tables.postings at [])) (sym is) (has.postings.each at (get_or tables.lexicon at []) (slice_get-get_or tables.lexicon at [] l))
    by (inr l) =
        let none : places_of tables value ≡ [] = get_or_past tables.postings (position_or_len (bytes_eq value) tables.lexicon) [] (omega (arith, has.postings.count)) in
        subst (ArePlacesOf value values) (sym none) (record {
          ascending = λ k m. absurd (omega arith);
          each = All-nil (λ (place : ℕ). slice_get values place ≡ Some value);
          all = λ place e.
              let its : Contains values value = (place, slice_get_within values place value e, get_or_from_slice_get values place value value e) in
              let (k, m, same) = All-contains (Contains tables.lexicon) values value has.lexicon.all its in
              let fails : bytes_eq value (get_or tables.lexicon k value) ≡ false = fails_before_first (bytes_eq value) tables.lexicon k value (omega arith) in
              absurd (true≢false (sym ((bytes_decides value (get_or tables.lexicon k value)).1 (sym same)) ∙ fails));
        })

module _ (value : List ℕ) (first second : List (List ℕ)) (a b : List ℕ) (f : ArePlacesOf value first a) (g : ArePlacesOf value second b) where
  moved : List ℕ
  moved = map (λ place. length first + place) b

  rises : IsStrictlyIncreasing (a ++ moved)
  unfolding moved
  rises k l = by (cases_lt (k + 1) (length a)) (cases_lt k (length a))
    where
      right : (i : ℕ) → length a ≤ i → i < length (a ++ moved) → (i - length a < length b) × (get_or (a ++ moved) i 0 ≡ length first + get_or b (i - length a) 0)
      right i m n =
          let low : i - length a < length b = omega (arith, length-append a moved, length-map b (λ (place : ℕ). length first + place)) in
          (low, get_or-append_right a moved (length a) i 0 refl m ∙ get_or-map (λ (place : ℕ). length first + place) b (i - length a) 0 0 low)

      by : (k + 1 < length a) ⊎ (length a ≤ k + 1) → (k < length a) ⊎ (length a ≤ k) → get_or (a ++ moved) k 0 < get_or (a ++ moved) (k + 1) 0
      by (inl m) n = rw (get_or_append_left a moved 0 k (omega arith), get_or_append_left a moved 0 (k + 1) m) (f.ascending k m)
      by (inr m) (inl n) =
          let within : get_or a k 0 < length first = slice_get_within first (get_or a k 0) value (f.each k 0 n) in
          omega (arith, get_or_append_left a moved 0 k n, within, (right (k + 1) m l).1)
      by (inr m) (inr n) =
          let here = right k n (omega arith) in
          let next = right (k + 1) m l in
          let same : k + 1 - length a ≡ k - length a + 1 = omega arith in
          let up : get_or b (k - length a) 0 < get_or b (k - length a + 1) 0 = g.ascending (k - length a) (omega (arith, next.0)) in
          omega (arith, here.1, next.1, up, ap (λ (i : ℕ). get_or b i 0) same)

  places_in_both : ArePlacesOf value (first ++ second) (a ++ moved)
  unfolding moved
  places_in_both = record {
    ascending = rises;
    each = All-append (λ (place : ℕ). slice_get (first ++ second) place ≡ Some value) a moved
        (All-weaker (λ (place : ℕ). slice_get first place ≡ Some value) (λ (place : ℕ). slice_get (first ++ second) place ≡ Some value)
        (λ place e. slice_get_left first second place (slice_get_within first place value e) ∙ e) a f.each)
        (All-map (λ (place : ℕ). slice_get (first ++ second) place ≡ Some value) (λ (place : ℕ). length first + place) b
        (All-weaker (λ (place : ℕ). slice_get second place ≡ Some value) (λ (place : ℕ). slice_get (first ++ second) (length first + place) ≡ Some value) (λ place e. slice_get_right first second place ∙ e) b g.each));
    all = λ place e. by place e (cases_lt place (length first));
  }
    where
      by : (place : ℕ) → slice_get (first ++ second) place ≡ Some value → (place < length first) ⊎ (length first ≤ place) → Contains (a ++ moved) place
      by place e (inl l) = Contains-append_left a moved place (f.all place (sym (slice_get_left first second place l) ∙ e))
      by place e (inr l) =
          let rest = place - length first in
          let same : length first + rest ≡ place = omega arith in
          let at : slice_get second rest ≡ Some value = sym (slice_get_right first second rest) ∙ ap (slice_get (first ++ second)) same ∙ e in
          subst (Contains (a ++ moved)) same (Contains-append_right a moved (length first + rest) (contains_map (λ (p : ℕ). length first + p) b rest (g.all rest at)))

-- ---- an attribute

-- the numbers of a column stand for its values
column_values_are : (values : List (List ℕ)) (tables : AttrTables) → Renumbers tables.numbers values tables.lexicon → numbered tables ≡ values
column_values_are values tables h =
    let long : length (numbered tables) ≡ length tables.numbers = length-map tables.numbers (λ number. get_or tables.lexicon number []) in
    same_lists (numbered tables) values (long ∙ h.count) (λ k d l.
    let within : k < length values = omega (arith, long, h.count) in
    get_or-map (λ number. get_or tables.lexicon number []) tables.numbers k 0 d (omega (arith, h.count))
    ∙ get_or_from_slice_get tables.lexicon (get_or tables.numbers k 0) (get_or values k d) [] (h.same k within ∙ slice_get-get_or values k d within))

module _ (first second : List (List ℕ)) (tokens : ℕ) (a b both : AttrTables) (is : tokens ≡ length first) (f : HaveValues first a) (g : HaveValues second b) (h : AreAttrsOfBoth tokens a b both) where
  have_both : HaveValues (first ++ second) both
  unfolding moved
  have_both = record {
    lexicon = record {
      ascending = h.lexicon.ascending;
      all = All-append (Contains both.lexicon) first second
          (All-weaker (Contains a.lexicon) (Contains both.lexicon) (λ v c. All-contains (Contains both.lexicon) (a.lexicon ++ b.lexicon) v h.lexicon.all (Contains-append_left a.lexicon b.lexicon v c)) first f.lexicon.all)
          (All-weaker (Contains b.lexicon) (Contains both.lexicon) (λ v c. All-contains (Contains both.lexicon) (a.lexicon ++ b.lexicon) v h.lexicon.all (Contains-append_right a.lexicon b.lexicon v c)) second g.lexicon.all);
      only = All-weaker (Contains (a.lexicon ++ b.lexicon)) (Contains (first ++ second)) (λ v c. from v (Contains-append_cases a.lexicon b.lexicon v c)) both.lexicon h.lexicon.only;
    };
    postings = record {
      count = h.count;
      each = λ number value at.
          rw (h.postings number value at, is) (places_in_both value first second (places_of a value) (places_of b value) (are_places first a value f) (are_places second b value g));
    };
  }
    where
      from : (v : List ℕ) → Contains a.lexicon v ⊎ Contains b.lexicon v → Contains (first ++ second) v
      from v (inl c) = Contains-append_left first second v (All-contains (Contains first) a.lexicon v f.lexicon.only c)
      from v (inr c) = Contains-append_right first second v (All-contains (Contains second) b.lexicon v g.lexicon.only c)

-- what tables of a mapped attribute map a value of the base to
module _ (image : List ℕ → List ℕ) (base its new of_base : AttrTables) (numbers : Renumbers its.numbers (map image base.lexicon) its.lexicon) (over : GoesOver base.lexicon its of_base.lexicon new) where
  gone_over : (k : ℕ) (v : List ℕ) → slice_get of_base.lexicon k ≡ Some v → Contains base.lexicon v → slice_get new.lexicon (get_or new.numbers k 0) ≡ slice_get (map image of_base.lexicon) k
  gone_over k v at (j, l, e) =
      let there : slice_get base.lexicon j ≡ Some v = slice_get-get_or base.lexicon j v l ∙ ap Some e in
      let same : slice_get of_base.lexicon k ≡ slice_get base.lexicon j = at ∙ sym there in
      over j k l same ∙ numbers.same j (omega (arith, length-map base.lexicon image)) ∙ slice_get-map image base.lexicon j ∙ ap (option_map image) (sym same) ∙ sym (slice_get-map image of_base.lexicon k)

-- ---- all attributes

module _ (images : List ℕ → List ℕ → List ℕ) (registry : Registry) (first second : List Text) (a b both : Tables) (valid : ValidRegistry registry)
    (f : AreTablesOf images registry first a) (g : AreTablesOf images registry second b) (h : AreTablesOfBoth a b both) where
  values : (number : ℕ) → attr_values images registry (first ++ second) number ≡ attr_values images registry first number ++ attr_values images registry second number
  values number =
      ap (map (attr_value images registry number)) (flat_map-append (λ (text : Text). text.tokens) first second) ∙ map-append (attr_value images registry number) (tokens_of first) (tokens_of second)

  here : (number : ℕ) → number < length registry.attrs → HaveValues (attr_values images registry (first ++ second) number) (tables_at both.attrs number)
  here number l =
      rw (values number)
      (have_both (attr_values images registry first number) (attr_values images registry second number) (token_count a) (tables_at a.attrs number) (tables_at b.attrs number) (tables_at both.attrs number)
      (sym (values_long images registry first a f number)) (have images registry first a f number l) (have images registry second b g number l) (h.attrs number (omega (arith, f.attr_count))))

  its_base : (number : ℕ) → number < length registry.attrs → (tables_at both.attrs number).base ≡ (attr_at registry number).base
  its_base number l = h.based number (omega (arith, f.attr_count)) ∙ based images registry first a f number l

  numbers_are : (number : ℕ) (base : Option ℕ) → number < length registry.attrs → (attr_at registry number).base ≡ base → AreNumbersOfBoth a.attrs b.attrs both.attrs number base
  numbers_are number base l e =
      subst (AreNumbersOfBoth a.attrs b.attrs both.attrs number) (based images registry first a f number l ∙ e) (h.numbers number (omega (arith, f.attr_count)))

  base_made : (number : ℕ) → number < length registry.attrs → (attr_at registry number).base ≡ None → AreBaseTables (attr_values images registry (first ++ second) number) (tables_at both.attrs number)
  base_made number l none = record {
    unmapped = its_base number l ∙ none;
    have = here number l;
    numbers = rw (values number, sym (column_values_are (attr_values images registry first number) (tables_at a.attrs number) (f.bases number l none).numbers), sym (column_values_are (attr_values images registry second number) (tables_at b.attrs number) (g.bases number l none).numbers))
        (numbers_are number None l none);
  }

  mapped_made : (number base : ℕ) → number < length registry.attrs → (attr_at registry number).base ≡ Some base →
      AreMappedTables base (images (attr_at registry number).mapper) (tables_at both.attrs base).lexicon (attr_values images registry (first ++ second) number) (tables_at both.attrs number)
  mapped_made number base l some =
      let (count, over_first, over_second) = numbers_are number (Some base) l some in
      record {
        mapped = its_base number l ∙ some;
        have = here number l;
        numbers = record { count = count ∙ sym (length-map (tables_at both.attrs base).lexicon image); same = λ k m. one over_first over_second k (omega (arith, length-map (tables_at both.attrs base).lexicon image)) };
      }
    where
      image : List ℕ → List ℕ
      image = images (attr_at registry number).mapper

      one : GoesOver (tables_at a.attrs base).lexicon (tables_at a.attrs number) (tables_at both.attrs base).lexicon (tables_at both.attrs number) →
          GoesOver (tables_at b.attrs base).lexicon (tables_at b.attrs number) (tables_at both.attrs base).lexicon (tables_at both.attrs number) →
          (k : ℕ) → k < length (tables_at both.attrs base).lexicon →
          slice_get (tables_at both.attrs number).lexicon (get_or (tables_at both.attrs number).numbers k 0) ≡ slice_get (map (images (attr_at registry number).mapper) (tables_at both.attrs base).lexicon) k
      one over_first over_second k m = by (Contains-append_cases (tables_at a.attrs base).lexicon (tables_at b.attrs base).lexicon v (only k [] m))
        where
          v : List ℕ
          v = get_or (tables_at both.attrs base).lexicon k []

          only : (k : ℕ) (d : List ℕ) → k < length (tables_at both.attrs base).lexicon → Contains ((tables_at a.attrs base).lexicon ++ (tables_at b.attrs base).lexicon) (get_or (tables_at both.attrs base).lexicon k d)
          only = (h.attrs base (omega (arith, f.attr_count, (base_is registry valid number base l some).0))).lexicon.only

          at : slice_get (tables_at both.attrs base).lexicon k ≡ Some v
          at = slice_get-get_or (tables_at both.attrs base).lexicon k [] m

          by : Contains (tables_at a.attrs base).lexicon v ⊎ Contains (tables_at b.attrs base).lexicon v →
              slice_get (tables_at both.attrs number).lexicon (get_or (tables_at both.attrs number).numbers k 0) ≡ slice_get (map (images (attr_at registry number).mapper) (tables_at both.attrs base).lexicon) k
          by (inl c) = gone_over (images (attr_at registry number).mapper) (tables_at a.attrs base) (tables_at a.attrs number) (tables_at both.attrs number) (tables_at both.attrs base) (f.mapped number base l some).numbers over_first k v at c
          by (inr c) = gone_over (images (attr_at registry number).mapper) (tables_at b.attrs base) (tables_at b.attrs number) (tables_at both.attrs number) (tables_at both.attrs base) (g.mapped number base l some).numbers over_second k v at c

  all_made : AreTablesOf images registry (first ++ second) both
  all_made = record {
    texts = h.texts ∙ ap₂ ◌++◌ f.texts g.texts ∙ sym (map-append (λ (text : Text). (text.name, length text.tokens)) first second);
    attr_count = h.attr_count ∙ f.attr_count;
    bases = λ number l none. base_made number l none;
    mapped = λ number base l some. mapped_made number base l some;
    kind_count = h.kind_count ∙ f.kind_count;
    structs = λ kind l.
        h.structs kind (omega (arith, f.kind_count)) ∙ ap₂ ◌++◌ (f.structs kind l) (g.structs kind l) ∙ sym (map-append (λ (text : Text). filter (is_of_kind kind) text.structs) first second);
  }

pub both_have : BothHaveTables
both_have images registry first second a b both valid f g h = all_made images registry first second a b both valid f g h
