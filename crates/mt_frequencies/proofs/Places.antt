-- How many places have a number.
use Rattle.std.proofs.Common.{◌≡◌, ℕ, zero, suc, ◌+◌, ◌-◌, ◌<◌, ◌≤◌, ◌==◌, ◌⊎◌, inl, inr, Bool, true, false, cond, List, [], ◌∷◌, ◌++◌, length, take, get_or, slice_get, Some, set, refl, sym, ◌∙◌, ap, ap₂, arith}
use Rattle.std.specs.List.{count_by, sum_by, range_with_len}
use Rattle.std.specs.List.Sorted.{IsStrictlySortedBy}
use Rattle.std.specs.Ordering.{nat_cmp}
use Rattle.std.specs.declared.cmp.Ordering.TheVariants.{Less}
use Rattle.std.proofs.lemmas.Bool.{true≢false, eq-eqb, eqb-true, ne_eqb, cases_eq}
use Rattle.std.proofs.lemmas.Grind.{common_steps}
use Rattle.std.proofs.lemmas.List.{get_or-set_same, get_or-set_other, get_or_default, length-set, take_all, take-take}
use Rattle.std.proofs.lemmas.List.Elements.{All-contains}
use Rattle.std.proofs.lemmas.List.Sums.{sum-map, sum_by-append, sum_by-cons, sum_by-take-le, sum_by_more}
use Rattle.std.proofs.lemmas.Map.Keys.{sorted_from_strictly_increasing}
use Rattle.std.proofs.lemmas.Option.{slice_get-get_or, slice_get_within, get_or_from_slice_get}
use Rattle.mt_match_laws.proofs.Members.{Member, each_member, to_member, from_member}
use Rattle.mt_segment_spec.specs.Tables.{Tables, AreTables, ArePlacesOf, HaveValues, attr_values, first_place, number_at, tables_at, token_count}
use Rattle.mt_segment_laws.specs.Laws.{NumbersStandForValues}
use Rattle.mt_segment_laws.proofs.Known.{values_long}
use Rattle.mt_segment_laws.proofs.Values.{have, one_number}
use Rattle.mt_frequencies.specs.Tokens.{ArePassed, AreTextNumbers, places_with, text_places}

-- ## Runs of places

pub split_range : (a m n : ℕ) → range_with_len a (m + n) ≡ range_with_len a m ++ range_with_len (a + m) n
split_range a zero n = let one : 0 + n ≡ n = omega arith in let two : a ≡ a + 0 = omega arith in ap (range_with_len a) one ∙ ap (λ (k : ℕ). range_with_len k n) two
split_range a (suc m) n =
    let one : suc m + n ≡ suc (m + n) = omega arith in
    let two : a + 1 + m ≡ a + suc m = omega arith in
    ap (range_with_len a) one ∙ ap (λ (xs : List ℕ). a ∷ xs) (split_range (a + 1) m n) ∙ ap (λ (k : ℕ). a ∷ (range_with_len (a + 1) m ++ range_with_len k n)) two

zero_less : (n : ℕ) → 0 + n ≡ n
zero_less n = omega arith

module _ (tables : Tables) (attr number : ℕ) where
  pub places_none : (from to : ℕ) → to ≤ from → places_with tables attr number from to ≡ 0
  places_none from to l = let none : to - from ≡ 0 = omega arith in ap (λ (n : ℕ). count_by (λ place. number_at tables attr place == number) (range_with_len from n)) none

  pub places_split : (a b c : ℕ) → a ≤ b → b ≤ c → places_with tables attr number a c ≡ places_with tables attr number a b + places_with tables attr number b c
  places_split a b c l m =
      let size : c - a ≡ (b - a) + (c - b) = omega arith in
      let mid : a + (b - a) ≡ b = omega arith in
      ap (λ (n : ℕ). count_by (λ place. number_at tables attr place == number) (range_with_len a n)) size
      ∙ ap (count_by (λ place. number_at tables attr place == number)) (split_range a (b - a) (c - b))
      ∙ sum_by-append (λ place. cond (number_at tables attr place == number) 1 0) (range_with_len a (b - a)) (range_with_len (a + (b - a)) (c - b))
      ∙ ap (λ (k : ℕ). places_with tables attr number a b + count_by (λ place. number_at tables attr place == number) (range_with_len k (c - b))) mid

  place_one : (place : ℕ) → places_with tables attr number place (place + 1) ≡ cond (number_at tables attr place == number) 1 0
  place_one place =
      let one : place + 1 - place ≡ 1 = omega arith in
      ap (λ (n : ℕ). count_by (λ p. number_at tables attr p == number) (range_with_len place n)) one ∙ zero_less (cond (number_at tables attr place == number) 1 0)

  pub places_yes : (from place : ℕ) → from ≤ place → number_at tables attr place ≡ number → places_with tables attr number from (place + 1) ≡ places_with tables attr number from place + 1
  places_yes from place l is =
      places_split from place (place + 1) l (omega arith) ∙ ap (λ (n : ℕ). places_with tables attr number from place + n) (place_one place ∙ ap (λ (b : Bool). cond b 1 0) (eq-eqb (number_at tables attr place) number is))

  pub places_no : (from place : ℕ) → from ≤ place → (number_at tables attr place ≡ number → ⊥) → places_with tables attr number from (place + 1) ≡ places_with tables attr number from place
  places_no from place l not =
      let same : places_with tables attr number from place + 0 ≡ places_with tables attr number from place = omega arith in
      places_split from place (place + 1) l (omega arith) ∙ ap (λ (n : ℕ). places_with tables attr number from place + n) (place_one place ∙ ap (λ (b : Bool). cond b 1 0) (ne_eqb (number_at tables attr place) number not)) ∙ same

-- ## Tokens that are counted

-- so many tokens are counted for each number
pub record AreCounted (tables : Tables) (attr from place : ℕ) (old counts : List ℕ) : Type 0 where
  pub count : length counts ≡ length old
  pub few : (number : ℕ) → number < length old → get_or counts number 0 ≤ place
  pub each : (number : ℕ) → number < length old → get_or counts number 0 ≡ get_or old number 0 + places_with tables attr number from place

pub none_counted : (tables : Tables) (attr from : ℕ) (old : List ℕ) → ((number : ℕ) → number < length old → get_or old number 0 ≤ from) → AreCounted tables attr from from old old
none_counted tables attr from old few = record { count = refl; few = few; each = λ number l. let none = places_none tables attr number from from (omega arith) in omega (arith, none) }

pub one_counted : (tables : Tables) (attr from place number value : ℕ) (old counts : List ℕ) → from ≤ place → number ≡ number_at tables attr place → number < length counts → value ≡ get_or counts number value → AreCounted tables attr from place old counts →
    AreCounted tables attr from (place + 1) old (set counts number (value + 1))
one_counted tables attr from place number value old counts order is within value_is counted = record {
  count = length-set counts number (value + 1) ∙ counted.count;
  few = λ other l. (by other l (cases_eq number other)).0;
  each = λ other l. (by other l (cases_eq number other)).1;
}
  where
    new : List ℕ
    new = set counts number (value + 1)

    by : (other : ℕ) → other < length old → (number ≡ other) ⊎ (number ≡ other → ⊥) → (get_or new other 0 ≤ place + 1) × (get_or new other 0 ≡ get_or old other 0 + places_with tables attr other from (place + 1))
    by other l (inl same) =
        let here : get_or new other 0 ≡ value + 1 = ap (λ (k : ℕ). get_or new k 0) (sym same) ∙ get_or-set_same counts number (value + 1) 0 within in
        let own : value ≡ get_or counts other 0 = value_is ∙ get_or_default counts number value 0 within ∙ ap (λ (k : ℕ). get_or counts k 0) same in
        let more = places_yes tables attr other from place order (sym is ∙ same) in
        (omega (arith, here, own, counted.few other l), omega (arith, here, own, more, counted.each other l))
    by other l (inr differ) =
        let here : get_or new other 0 ≡ get_or counts other 0 = get_or-set_other counts number other (value + 1) 0 (λ e. differ (sym e)) in
        let more = places_no tables attr other from place order (λ e. differ (is ∙ e)) in
        (omega (arith, here, counted.few other l), omega (arith, here, more, counted.each other l))

-- ## Texts that are passed

pub first_before : (tables : Tables) (text later : ℕ) → text ≤ later → first_place tables text ≤ first_place tables later
first_before tables text later l =
    let heads : List (List ℕ × ℕ) = take later tables.texts in
    let a = sum-map (λ (head : List ℕ × ℕ). head.1) (take text tables.texts) in
    let b = sum-map (λ (head : List ℕ × ℕ). head.1) heads in
    let c = sum_by-take-le (λ (head : List ℕ × ℕ). head.1) heads text in
    let e = ap (λ (xs : List (List ℕ × ℕ)). sum_by (λ (head : List ℕ × ℕ). head.1) xs) (take-take text later tables.texts l) in
    omega (arith, a, b, c, e)

-- the texts before a place are live, or their tokens are counted
pub record IsPassedTo (tables : Tables) (attr i from : ℕ) (live counts : List ℕ) : Type 0 where
  pub count : length counts ≡ length (tables_at tables.attrs attr).lexicon
  pub few : (number : ℕ) → number < length counts → get_or counts number 0 ≤ from
  pub before : (k : ℕ) → i ≤ k → k < length live → from ≤ first_place tables (get_or live k 0)
  pub within : from ≤ token_count tables
  pub each : (number : ℕ) → number < length counts → get_or counts number 0 + sum_by (text_places tables attr number) (take i live) ≡ places_with tables attr number 0 from

pub passed_none : (tables : Tables) (attr : ℕ) (live counts : List ℕ) → length counts ≡ length (tables_at tables.attrs attr).lexicon → ((number : ℕ) → number < length counts → get_or counts number 0 ≡ 0) → IsPassedTo tables attr 0 0 live counts
passed_none tables attr live counts count zeros = record {
  count = count;
  few = λ number l. omega (arith, zeros number l);
  before = λ k m l. omega arith;
  within = omega arith;
  each = λ number l. let none = places_none tables attr number 0 0 (omega arith) in omega (arith, none, zeros number l);
}

pub passed_more : (tables : Tables) (attr i from begin end : ℕ) (live counts new : List ℕ) → AreTextNumbers tables live → i < length live → begin ≡ first_place tables (get_or live i 0) → end ≡ first_place tables (get_or live i 0 + 1) → begin ≤ end → end ≤ token_count tables →
    IsPassedTo tables attr i from live counts → AreCounted tables attr from begin counts new → IsPassedTo tables attr (i + 1) end live new
passed_more tables attr i from begin end live counts new numbers l begin_is end_is order within to counted =
    let front : from ≤ begin = omega (arith, begin_is, to.before i (omega arith) l) in
    record {
      count = counted.count ∙ to.count;
      few = λ number m. omega (arith, counted.few number (omega (arith, m, counted.count)), order);
      before = λ k m n.
          let later : get_or live i 0 < get_or live k 0 = numbers.ascending i k 0 (omega arith) n in
          omega (arith, end_is, first_before tables (get_or live i 0 + 1) (get_or live k 0) (omega (arith, later)));
      within = within;
      each = λ number m.
          let inside : number < length counts = omega (arith, m, counted.count) in
          let own : text_places tables attr number (get_or live i 0) ≡ places_with tables attr number begin end = ap₂ (places_with tables attr number) (sym begin_is) (sym end_is) in
          let more = sum_by_more (text_places tables attr number) live i 0 l in
          let one = places_split tables attr number 0 from begin (omega arith) front in
          let two = places_split tables attr number 0 begin end (omega arith) order in
          omega (arith, own, more, one, two, counted.each number inside, to.each number inside);
    }

pub all_are_passed : (tables : Tables) (attr from tokens : ℕ) (live counts new : List ℕ) → tokens ≡ token_count tables → from ≤ tokens → IsPassedTo tables attr (length live) from live counts → AreCounted tables attr from tokens counts new → ArePassed tables attr live new
all_are_passed tables attr from tokens live counts new is order to counted = record {
  each = λ number l.
      let inside : number < length counts = omega (arith, l, to.count) in
      let one = places_split tables attr number 0 from tokens (omega arith) order in
      let all : sum_by (text_places tables attr number) (take (length live) live) ≡ sum_by (text_places tables attr number) live = ap (sum_by (text_places tables attr number)) (take_all (length live) live (omega arith)) in
      omega (arith, one, all, counted.each number inside, to.each number inside, ap (places_with tables attr number 0) is);
}

-- ## Posting lists

less_lt : (a b : ℕ) → nat_cmp a b ≡ Less → a < b
less_lt a b h = grind (arith, common_steps)

-- an ascending list of just those numbers that pass a test has as many as pass
count_listed : (test : ℕ → Bool) (from count : ℕ) (ps : List ℕ) → IsStrictlySortedBy nat_cmp ps → ((p : ℕ) → Member p ps → (from ≤ p) × (p < from + count) × (test p ≡ true)) → ((p : ℕ) → from ≤ p → p < from + count → test p ≡ true → Member p ps) →
    length ps ≡ count_by test (range_with_len from count)
unfolding IsStrictlySortedBy
count_listed test from zero [] up only all = refl
count_listed test from zero (p ∷ ps) up only all = let (l, m, e) = only p (inl refl) in absurd (omega (arith, l, m))
count_listed test from (suc count) ps up only all = by (count_listed test (from + 1) count) ps (test from) refl up only all ∙ sym (sum_by-cons (λ p. cond (test p) 1 0) from (range_with_len (from + 1) count))
  where
    by : ((ps : List ℕ) → IsStrictlySortedBy nat_cmp ps → ((p : ℕ) → Member p ps → (from + 1 ≤ p) × (p < from + 1 + count) × (test p ≡ true)) → ((p : ℕ) → from + 1 ≤ p → p < from + 1 + count → test p ≡ true → Member p ps) → length ps ≡ count_by test (range_with_len (from + 1) count)) →
        (qs : List ℕ) (b : Bool) → test from ≡ b → IsStrictlySortedBy nat_cmp qs → ((p : ℕ) → Member p qs → (from ≤ p) × (p < from + suc count) × (test p ≡ true)) → ((p : ℕ) → from ≤ p → p < from + suc count → test p ≡ true → Member p qs) →
        length qs ≡ cond (test from) 1 0 + count_by test (range_with_len (from + 1) count)
    by further qs false e up only all =
        let rest : length qs ≡ count_by test (range_with_len (from + 1) count) =
        further qs up
        (λ p m.
        let (l, n, f) = only p m in
        let differ : (from ≡ p) → ⊥ = λ same. true≢false (sym f ∙ ap test (sym same) ∙ e) in
        (elim (cases_eq from p) [ inl same ↦ absurd (differ same) | inr apart ↦ omega (arith, l, apart) ], omega (arith, n), f))
        (λ p l n f. all p (omega arith) (omega arith) f) in
        omega (arith, rest, ap {B = ℕ} (λ (b : Bool). cond b 1 0) e)
    by further [] true e up only all = absurd (all from (omega arith) (omega arith) e)
    by further (q ∷ qs) true e up only all =
        let first : q ≡ from = elim (all from (omega arith) (omega arith) e) [
          | inl same ↦ sym same
          | inr later ↦ let (l, n, f) = only q (inl refl) in let m : q < from = less_lt q from (each_member (λ y. nat_cmp q y ≡ Less) qs from up.0 later) in absurd (omega (arith, l, m))
        ] in
        let rest : length qs ≡ count_by test (range_with_len (from + 1) count) =
        further qs up.1
        (λ p m.
        let (l, n, f) = only p (inr m) in
        let above : q < p = less_lt q p (each_member (λ y. nat_cmp q y ≡ Less) qs p up.0 m) in
        (omega (arith, above, first), omega (arith, n), f))
        (λ p l n f. elim (all p (omega arith) (omega arith) f) [ inl same ↦ absurd (omega (arith, same, first, l)) | inr m ↦ m ]) in
        omega (arith, rest, ap {B = ℕ} (λ (b : Bool). cond b 1 0) e)

pub postings_count : NumbersStandForValues → (tables : Tables) → AreTables tables → (attr number : ℕ) → attr < length tables.attrs → number < length (tables_at tables.attrs attr).lexicon →
    length (get_or (tables_at tables.attrs attr).postings number []) ≡ places_with tables attr number 0 (token_count tables)
postings_count law tables known attr number l low =
    let by = known.under.by in
    let images = known.under.images in
    let values : List (List ℕ) = attr_values images known.registry by.corpus attr in
    let lexicon : List (List ℕ) = (tables_at tables.attrs attr).lexicon in
    let value : List ℕ = get_or lexicon number [] in
    let its : HaveValues values (tables_at tables.attrs attr) = have images known.registry by.corpus tables by.are attr (omega (arith, l, by.are.attr_count)) in
    let here : slice_get lexicon number ≡ Some value = slice_get-get_or lexicon number [] low in
    let places = get_or (tables_at tables.attrs attr).postings number [] in
    let are : ArePlacesOf value values places = its.postings.each number value here in
    let long : length values ≡ token_count tables = values_long images known.registry by.corpus tables by.are attr in
    let stands = law images known.registry by.corpus tables by.valid by.are attr in
    let none : token_count tables - 0 ≡ token_count tables = omega arith in
    count_listed (λ place. number_at tables attr place == number) 0 (token_count tables) places (sorted_from_strictly_increasing places are.ascending)
    (λ place m.
    let is : slice_get values place ≡ Some value = All-contains (λ (p : ℕ). slice_get values p ≡ Some value) places place are.each (from_member places place m) in
    let within : place < token_count tables = omega (arith, slice_get_within values place value is, long) in
    let same : number_at tables attr place ≡ number = one_number lexicon (number_at tables attr place) number value its.lexicon.ascending (stands place l within ∙ ap Some (get_or_from_slice_get values place value [] is)) here in
    (omega arith, omega (arith, within), eq-eqb (number_at tables attr place) number same))
    (λ place m within passes.
    let inside : place < token_count tables = omega (arith, within) in
    let is : number_at tables attr place ≡ number = eqb-true (number_at tables attr place) number passes in
    let same : Some (get_or values place []) ≡ Some value = sym (stands place l inside) ∙ ap (slice_get lexicon) is ∙ here in
    to_member places place (are.all place (slice_get-get_or values place [] (omega (arith, inside, long)) ∙ same)))
    ∙ ap (λ (n : ℕ). count_by (λ place. number_at tables attr place == number) (range_with_len 0 n)) (sym none)
