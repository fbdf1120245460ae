-- The runs of a column, and the places of a number in all of them.
use Rattle.std.proofs.Common.{◌≡◌, ℕ, ◌+◌, ◌-◌, ◌*◌, ◌<◌, ◌≤◌, List, [], ◌∷◌, ◌++◌, length, length-append, map, take, drop, get_or, slice_get, Some, refl, sym, ◌∙◌, ap, subst, arith, ◌⊎◌, inl, inr}
use Rattle.std.specs.List.{All, Contains}
use Rattle.std.specs.List.Sorted.{IsStrictlyIncreasing}
use Rattle.std.proofs.lemmas.Bool.{cases_lt}
use Rattle.std.proofs.lemmas.List.{length-map, length-take, length-take-le, length-drop, take_all, get_or-map, get_or_append_left, get_or-append_right, get_or_push}
use Rattle.std.proofs.lemmas.List.Elements.{All-append, All-drop, All-map, All-take, All-weaker, Contains-append_left, Contains-append_right}
use Rattle.std.proofs.lemmas.Option.{slice_get_within}
use Rattle.rayon.specs.Shown.{take-add}
use Rattle.mt_store_spec.specs.Positions.{ArePositions}
use Rattle.mt_segment_spec.specs.Tables.{ArePlacesOf}
use Rattle.mt_segment_laws.proofs.Parts.{slice_get_left, slice_get_right}
use Rattle.mt_segment.specs.Parts.{AreInverted, ArePartsOf, part}
use Rattle.mt_segment.proofs.Slots.{are_parts, places}
use Rattle.mt_inverting.specs.Blocks.{AreAllBlocksOf, AreEach, AreListsOf, Block, IsBlockOf, run}

-- ---- items that stand for numbers

pub none_yet : {X : Type 0} (Is : ℕ → X → Type 0) (from : ℕ) (items : List X) → items ≡ [] → AreEach Is from from items
none_yet Is from items e = rw e (record { count_is = omega arith; each = λ k d l. absurd (omega arith) })

pub one_more : {X : Type 0} (Is : ℕ → X → Type 0) (from to : ℕ) (items more : List X) (item : X) → AreEach Is from to items → Is to item → more ≡ items ++ item ∷ [] → AreEach Is from (to + 1) more
one_more {X = X} Is from to items more item h is e = rw e (record {
  count_is = omega (arith, length-append items (item ∷ []), h.count_is);
  each = λ k d l. by k d (cases_lt k (length items)) (omega (arith, length-append items (item ∷ []), l));
})
  where
    by : (k : ℕ) (d : X) → (k < length items) ⊎ (length items ≤ k) → k < length items + 1 → Is (from + k) (get_or (items ++ item ∷ []) k d)
    by k d (inl low) l = subst (Is (from + k)) (sym (get_or_append_left items (item ∷ []) d k low)) (h.each k d low)
    by k d (inr high) l =
        let same : length items ≡ k = omega arith in
        let here : to ≡ from + k = omega (arith, same, h.count_is) in
        let at : get_or (items ++ item ∷ []) k d ≡ item = ap (λ (n : ℕ). get_or (items ++ item ∷ []) n d) (sym same) ∙ get_or_push items item d (length items) refl in
        subst (Is (from + k)) (sym at) (subst (λ (n : ℕ). Is n item) here is)

pub both_are : {X : Type 0} (Is : ℕ → X → Type 0) (from middle to : ℕ) (first others both : List X) → AreEach Is from middle first → AreEach Is middle to others → both ≡ first ++ others → AreEach Is from to both
both_are {X = X} Is from middle to first others both h g e = rw e (record {
  count_is = omega (arith, length-append first others, h.count_is, g.count_is);
  each = λ k d l. by k d (cases_lt k (length first)) (omega (arith, length-append first others, l));
})
  where
    by : (k : ℕ) (d : X) → (k < length first) ⊎ (length first ≤ k) → k < length first + length others → Is (from + k) (get_or (first ++ others) k d)
    by k d (inl low) l = subst (Is (from + k)) (sym (get_or_append_left first others d k low)) (h.each k d low)
    by k d (inr high) l =
        let here : middle + (k - length first) ≡ from + k = omega (arith, h.count_is) in
        subst (Is (from + k)) (sym (get_or-append_right first others (length first) k d refl high)) (subst (λ (n : ℕ). Is n (get_or others (k - length first) d)) here (g.each (k - length first) d (omega arith)))

-- ---- runs

-- the run is what stands there, up to the end of the column
pub run_is : (xs slice : List ℕ) (number size : ℕ) → 65536 * number ≤ length xs → slice ≡ take size (drop (65536 * number) xs) → (size ≡ 65536) ⊎ ((size ≡ length xs - 65536 * number) × (size ≤ 65536)) → slice ≡ run xs number
run_is xs slice number size l e (inl full) = e ∙ ap (λ (n : ℕ). take n (drop (65536 * number) xs)) full
run_is xs slice number size l e (inr (last, few)) =
    let long : length (drop (65536 * number) xs) ≡ size = length-drop (65536 * number) xs ∙ sym last in
    e ∙ take_all size (drop (65536 * number) xs) (omega (arith, long)) ∙ sym (take_all 65536 (drop (65536 * number) xs) (omega (arith, long, few)))

pub of_run : (P : ℕ → Type 0) (xs : List ℕ) (number : ℕ) → All P xs → All P (run xs number)
of_run P xs number h = All-take P 65536 (drop (65536 * number) xs) (All-drop P (65536 * number) xs h)

-- the runs before one, and it
pub runs_before : (xs : List ℕ) (number : ℕ) → take (65536 * (number + 1)) xs ≡ take (65536 * number) xs ++ run xs number
runs_before xs number =
    let e : 65536 * (number + 1) ≡ 65536 * number + 65536 = omega arith in
    ap (λ (n : ℕ). take n xs) e ∙ take-add (65536 * number) 65536 xs

-- ---- the places of a number in two lists

contains_map : (f : ℕ → ℕ) (xs : List ℕ) (x : ℕ) → Contains xs x → Contains (map f xs) (f x)
contains_map f xs x (k, l, e) = (k, omega (arith, length-map xs f), get_or-map f xs k x (f x) l ∙ ap f e)

module _ (value : ℕ) (first second : List ℕ) (a b : List ℕ) (f : ArePlacesOf value first a) (g : ArePlacesOf value second b) where
  moved : List ℕ
  moved = map (λ place. length first + place) b

  rises : IsStrictlyIncreasing (a ++ moved)
  unfolding moved
  rises k l = by (cases_lt (k + 1) (length a)) (cases_lt k (length a))
    where
      right : (i : ℕ) → length a ≤ i → i < length (a ++ moved) → (i - length a < length b) × (get_or (a ++ moved) i 0 ≡ length first + get_or b (i - length a) 0)
      right i m n =
          let low : i - length a < length b = omega (arith, length-append a moved, length-map b (λ (place : ℕ). length first + place)) in
          (low, get_or-append_right a moved (length a) i 0 refl m ∙ get_or-map (λ (place : ℕ). length first + place) b (i - length a) 0 0 low)

      by : (k + 1 < length a) ⊎ (length a ≤ k + 1) → (k < length a) ⊎ (length a ≤ k) → get_or (a ++ moved) k 0 < get_or (a ++ moved) (k + 1) 0
      by (inl m) n = rw (get_or_append_left a moved 0 k (omega arith), get_or_append_left a moved 0 (k + 1) m) (f.ascending k m)
      by (inr m) (inl n) =
          let within : get_or a k 0 < length first = slice_get_within first (get_or a k 0) value (f.each k 0 n) in
          omega (arith, get_or_append_left a moved 0 k n, within, (right (k + 1) m l).1)
      by (inr m) (inr n) =
          let here = right k n (omega arith) in
          let next = right (k + 1) m l in
          let same : k + 1 - length a ≡ k - length a + 1 = omega arith in
          let up : get_or b (k - length a) 0 < get_or b (k - length a + 1) 0 = g.ascending (k - length a) (omega (arith, next.0)) in
          omega (arith, here.1, next.1, up, ap (λ (i : ℕ). get_or b i 0) same)

  pub places_in_both : ArePlacesOf value (first ++ second) (a ++ map (λ place. length first + place) b)
  unfolding moved
  places_in_both = record {
    ascending = rises;
    each = All-append (λ (place : ℕ). slice_get (first ++ second) place ≡ Some value) a moved
        (All-weaker (λ (place : ℕ). slice_get first place ≡ Some value) (λ (place : ℕ). slice_get (first ++ second) place ≡ Some value)
        (λ place e. slice_get_left first second place (slice_get_within first place value e) ∙ e) a f.each)
        (All-map (λ (place : ℕ). slice_get (first ++ second) place ≡ Some value) (λ (place : ℕ). length first + place) b
        (All-weaker (λ (place : ℕ). slice_get second place ≡ Some value) (λ (place : ℕ). slice_get (first ++ second) (length first + place) ≡ Some value) (λ place e. slice_get_right first second place ∙ e) b g.each));
    all = λ place e. by place e (cases_lt place (length first));
  }
    where
      by : (place : ℕ) → slice_get (first ++ second) place ≡ Some value → (place < length first) ⊎ (length first ≤ place) → Contains (a ++ moved) place
      by place e (inl l) = Contains-append_left a moved place (f.all place (sym (slice_get_left first second place l) ∙ e))
      by place e (inr l) =
          let rest = place - length first in
          let same : length first + rest ≡ place = omega arith in
          let at : slice_get second rest ≡ Some value = sym (slice_get_right first second rest) ∙ ap (slice_get (first ++ second)) same ∙ e in
          subst (Contains (a ++ moved)) same (Contains-append_right a moved (length first + rest) (contains_map (λ (p : ℕ). length first + p) b rest (g.all rest at)))

-- ---- the places of a number in the runs

pub no_places : (number : ℕ) (xs places : List ℕ) → places ≡ [] → ArePlacesOf number (take (65536 * 0) xs) places
no_places number xs places e = rw e (record { ascending = λ k l. absurd (omega arith); each = λ k d l. absurd (omega arith); all = λ place s. absurd (none place s) })
  where
    none : (place : ℕ) → slice_get (take (65536 * 0) xs) place ≡ Some number → ⊥
    none place s = omega (arith, slice_get_within (take (65536 * 0) xs) place number s)

-- the run behind others
pub next_run : (xs : List ℕ) (count k number begin : ℕ) (block : Block) (before more : List ℕ) → 65536 * k ≤ length xs → IsBlockOf (run xs k) count block → number < count → ArePlacesOf number (take (65536 * k) xs) before → begin ≡ 65536 * k →
    more ≡ before ++ map (λ place. begin + place) (part block.places block.ends number) → ArePlacesOf number (take (65536 * (k + 1)) xs) more
next_run xs count k number begin block before more l is low h e m =
    let long : length (take (65536 * k) xs) ≡ begin = length-take-le (65536 * k) xs l ∙ sym e in
    let of_run = places (run xs k) block.places block.ends is.places is.ends number (omega (arith, low, is.count_is)) in
    let both = places_in_both number (take (65536 * k) xs) (run xs k) before (part block.places block.ends number) h of_run in
    let moved : more ≡ before ++ map (λ place. length (take (65536 * k) xs) + place) (part block.places block.ends number) = m ∙ ap (λ (n : ℕ). before ++ map (λ place. n + place) (part block.places block.ends number)) (sym long) in
    subst (λ (ys : List ℕ). ArePlacesOf number ys more) (sym (runs_before xs k)) (subst (ArePlacesOf number (take (65536 * k) xs ++ run xs k)) (sym moved) both)

at_most : (n : ℕ) (xs : List ℕ) → length (take n xs) ≤ n
at_most n xs = omega (arith, length-take n xs)

short_run : (xs : List ℕ) (k : ℕ) → length (run xs k) ≤ 65536
short_run xs k = at_most 65536 (drop (65536 * k) xs)

-- the block with this number
pub block_at : (xs : List ℕ) (count k : ℕ) (blocks : List Block) (block : Block) → AreAllBlocksOf xs count blocks → k < length blocks → block ≡ get_or blocks k block → IsBlockOf (run xs k) count block
block_at xs count k blocks block h l e =
    let here : 0 + k ≡ k = omega arith in
    subst (λ (n : ℕ). IsBlockOf (run xs n) count block) here (subst (IsBlockOf (run xs (0 + k)) count) (sym e) (h.are.each k block l))

-- the block has parts
pub has_parts : (xs : List ℕ) (count k : ℕ) (block : Block) → IsBlockOf (run xs k) count block → ArePartsOf block.places block.ends
has_parts xs count k block is = are_parts (run xs k) block.places block.ends is.places is.ends (omega (arith, short_run xs k))

-- all runs are the column
pub all_runs : (xs : List ℕ) (number k runs : ℕ) (places : List ℕ) → k ≡ runs → length xs ≤ 65536 * runs → ArePlacesOf number (take (65536 * k) xs) places → ArePlacesOf number xs places
all_runs xs number k runs places e l h = subst (λ (ys : List ℕ). ArePlacesOf number ys places) (take_all (65536 * k) xs (omega (arith, e, l))) h

pub are_positions : (xs : List ℕ) (number : ℕ) (places : List ℕ) → length xs < 4294967295 → ArePlacesOf number xs places → ArePositions places
are_positions xs number places short h = record {
  ascending = h.ascending;
  in_range = All-weaker (λ (p : ℕ). slice_get xs p ≡ Some number) (λ (p : ℕ). p < 4294967295) (λ p e. omega (arith, slice_get_within xs p number e, short)) places h.each;
}

pub inverted : (xs : List ℕ) (count : ℕ) (lists : List (List ℕ)) → AreListsOf xs 0 count lists → AreInverted xs count lists
inverted xs count lists h = record {
  count_is = omega (arith, h.count_is);
  each = λ number l.
      let here : 0 + number ≡ number = omega arith in
      subst (λ (n : ℕ). ArePlacesOf n xs (get_or lists number [])) here (h.each number [] (omega (arith, h.count_is, l)));
}
