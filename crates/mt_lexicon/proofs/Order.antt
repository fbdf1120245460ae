-- The order of bytes.
use Rattle.std.proofs.Common.{◌≡◌, ℕ, zero, suc, ◌+◌, ◌-◌, ◌<◌, ◌≤◌, List, [], length, get_or, slice_get, Option, Some, None, refl, sym, ◌∙◌, ap, subst, arith, ◌⊎◌, inl, inr}
use Rattle.std.specs.Ordering.{nat_cmp, ordering_reverse, is_eq}
use Rattle.std.specs.Cmp.{IsTotalOrder}
use Rattle.std.specs.Cmp.Lexicographic.{slice_cmp, nat_list_cmp_total, texts_ties, bytes_decides}
use Rattle.std.specs.declared.cmp.Ordering.{Ordering}
use Rattle.std.specs.declared.cmp.Ordering.TheVariants.{Less, Equal, Greater}
use Rattle.std.specs.List.{Contains}
use Rattle.std.proofs.lemmas.Bool.{cases_lt}
use Rattle.std.proofs.lemmas.Cmp.{tied_itself}
use Rattle.std.proofs.lemmas.List.{get_or_default}
use Rattle.std.proofs.lemmas.Option.{get_or_from_slice_get, slice_get_within}
use Rattle.mt_store_spec.specs.Lexicons.{IsBelow, IsAscending}
use Rattle.mt_lexicon.specs.Joins.{ComesNext}

pub chained : (a b c : List ℕ) → IsBelow a b → IsBelow b c → IsBelow a c
chained a b c h g = let o : IsTotalOrder (slice_cmp nat_cmp) = nat_list_cmp_total in o.trans a b c h g

pub not_below_itself : (a : List ℕ) → IsBelow a a → ⊥
not_below_itself a h = let e : slice_cmp nat_cmp a a ≡ Equal = tied_itself nat_list_cmp_total a in cc

pub flipped : (a b : List ℕ) → slice_cmp nat_cmp a b ≡ Greater → IsBelow b a
flipped a b h = let o : IsTotalOrder (slice_cmp nat_cmp) = nat_list_cmp_total in o.antisymm b a ∙ ap ordering_reverse h

pub same_from_equal : (a b : List ℕ) → slice_cmp nat_cmp a b ≡ Equal → a ≡ b
same_from_equal a b h = (bytes_decides a b).0 (texts_ties a b ∙ ap is_eq h)

pub read_at : (values : List (List ℕ)) (m : ℕ) (x : List ℕ) → slice_get values m ≡ Some x → get_or values m [] ≡ x
read_at values m x e = get_or_from_slice_get values m x [] e

-- the values up to one that is below a value are below it
pub all_below : (values : List (List ℕ)) (value x : List ℕ) (m : ℕ) → IsAscending values → slice_get values m ≡ Some x → slice_cmp nat_cmp x value ≡ Less →
    (k : ℕ) → k < m + 1 → IsBelow (get_or values k []) value
all_below values value x m up at less k l =
    let here : get_or values m [] ≡ x = read_at values m x at in
    let low : m < length values = slice_get_within values m x at in
    let last : IsBelow (get_or values m []) value = rw here less in
    by (cases_lt k m) here low last
  where
    by : (k < m) ⊎ (m ≤ k) → get_or values m [] ≡ x → m < length values → IsBelow (get_or values m []) value → IsBelow (get_or values k []) value
    by (inl j) here low last = chained (get_or values k []) (get_or values m []) value (up k m [] j low) last
    by (inr j) here low last = let e : m ≡ k = omega arith in subst (λ (n : ℕ). IsBelow (get_or values n []) value) e last

-- the values from one that is above a value are above it
pub all_above : (values : List (List ℕ)) (value x : List ℕ) (m : ℕ) → IsAscending values → slice_get values m ≡ Some x → slice_cmp nat_cmp x value ≡ Greater →
    (k : ℕ) → m ≤ k → k < length values → IsBelow value (get_or values k [])
all_above values value x m up at greater k l within =
    let here : get_or values m [] ≡ x = read_at values m x at in
    let first : IsBelow value (get_or values m []) = rw here (flipped x value greater) in
    by (cases_lt m k) first
  where
    by : (m < k) ⊎ (k ≤ m) → IsBelow value (get_or values m []) → IsBelow value (get_or values k [])
    by (inl j) first = chained value (get_or values m []) (get_or values k []) first (up m k [] j within)
    by (inr j) first = let e : m ≡ k = omega arith in subst (λ (n : ℕ). IsBelow value (get_or values n [])) e first

-- where each value is below or above a value, it is not among them
pub absent : (values : List (List ℕ)) (value : List ℕ) (low high : ℕ) → ((k : ℕ) → k < low → IsBelow (get_or values k []) value) →
    ((k : ℕ) → high ≤ k → k < length values → IsBelow value (get_or values k [])) → high ≤ low → ¬ Contains values value
absent values value low high below above met (k, l, e) =
    let at : get_or values k [] ≡ value = get_or_default values k [] value l ∙ e in
    by (cases_lt k low) at
  where
    by : (k < low) ⊎ (low ≤ k) → get_or values k [] ≡ value → ⊥
    by (inl j) at = not_below_itself value (rw at at (below k j))
    by (inr j) at = not_below_itself value (rw at at (above k (omega arith) l))

-- what a comparison of two next values says
pub compared : (first : List (List ℕ)) (i : ℕ) (second : List (List ℕ)) (j : ℕ) (a b : List ℕ) (o : Ordering) → slice_get first i ≡ Some a → slice_get second j ≡ Some b → o ≡ slice_cmp nat_cmp a b →
    ComesNext first i second j (Some o)
compared first i second j a b o at there e =
    by o e (slice_get_within first i a at) (slice_get_within second j b there) (read_at first i a at) (read_at second j b there)
  where
    by : (o : Ordering) → o ≡ slice_cmp nat_cmp a b → i < length first → j < length second → get_or first i [] ≡ a → get_or second j [] ≡ b → ComesNext first i second j (Some o)
    by Less e l m p q = (l, λ _. rw (p, q) (sym e))
    by Equal e l m p q = (l, m, p ∙ same_from_equal a b (sym e) ∙ sym q)
    by Greater e l m p q = (m, λ _. rw (p, q) (flipped a b (sym e)))

-- where neither list has a next value, both are at their ends
pub ended : (first : List (List ℕ)) (i : ℕ) (second : List (List ℕ)) (j : ℕ) (o : Option Ordering) → ComesNext first i second j o → ((x : Ordering) → o ≡ Some x → ⊥) →
    (i ≡ length first) × (j ≡ length second)
ended first i second j None h n = h
ended first i second j (Some x) h n = absurd (n x refl)

-- where each value is below the next one, each is below every later one
pub rising_on : (values : List (List ℕ)) → ((k : ℕ) → k + 1 < length values → IsBelow (get_or values k []) (get_or values (k + 1) [])) → IsAscending values
rising_on values next = λ i j d low l.
    subst (λ (v : List ℕ). IsBelow v (get_or values j d)) (get_or_default values i [] d (omega arith))
    (subst (IsBelow (get_or values i [])) (get_or_default values j [] d l) (far i j low l))
  where
    far : (i j : ℕ) → i < j → j < length values → IsBelow (get_or values i []) (get_or values j [])
    far i zero low l = absurd (omega arith)
    far i (suc j) low l = by (cases_lt i j) (far i j)
      where
        step : IsBelow (get_or values j []) (get_or values (suc j) [])
        step = let e : j + 1 ≡ suc j = omega arith in subst (λ (n : ℕ). IsBelow (get_or values j []) (get_or values n [])) e (next j (omega arith))

        by : (i < j) ⊎ (j ≤ i) → (i < j → j < length values → IsBelow (get_or values i []) (get_or values j [])) → IsBelow (get_or values i []) (get_or values (suc j) [])
        by (inl less) before = chained (get_or values i []) (get_or values j []) (get_or values (suc j) []) (before less (omega arith)) step
        by (inr same) before = let e : j ≡ i = omega arith in subst (λ (n : ℕ). IsBelow (get_or values n []) (get_or values (suc j) [])) e step

-- one more value that is below the next
pub next_more : (values : List (List ℕ)) (place : ℕ) (a b : List ℕ) → ((k : ℕ) → k + 1 < place → IsBelow (get_or values k []) (get_or values (k + 1) [])) → 1 ≤ place → slice_get values (place - 1) ≡ Some a → slice_get values place ≡ Some b → IsBelow a b →
    (k : ℕ) → k + 1 < place + 1 → IsBelow (get_or values k []) (get_or values (k + 1) [])
next_more values place a b before some at there below k l = by (cases_lt (k + 1) place)
  where
    by : (k + 1 < place) ⊎ (place ≤ k + 1) → IsBelow (get_or values k []) (get_or values (k + 1) [])
    by (inl m) = before k m
    by (inr m) =
        let e : place - 1 ≡ k = omega arith in
        let f : place ≡ k + 1 = omega arith in
        subst (λ (n : ℕ). IsBelow (get_or values n []) (get_or values (k + 1) [])) e
        (subst (λ (n : ℕ). IsBelow (get_or values (place - 1) []) (get_or values n [])) f (rw (read_at values (place - 1) a at, read_at values place b there) below))

-- values of an ascending list that stand side by side
pub side_by_side : (values : List (List ℕ)) (place : ℕ) (a b : List ℕ) → IsAscending values → 1 ≤ place → slice_get values (place - 1) ≡ Some a → slice_get values place ≡ Some b → IsBelow a b
side_by_side values place a b up some at there =
    let low : place < length values = slice_get_within values place b there in
    let is : IsBelow (get_or values (place - 1) []) (get_or values place []) = up (place - 1) place [] (omega arith) low in
    rw (read_at values (place - 1) a at, read_at values place b there) at is
