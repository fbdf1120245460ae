-- The places of numbers among the live ones of a group, which ascend.
use Rattle.std.proofs.Common.{◌≡◌, ℕ, zero, suc, ◌+◌, ◌<◌, ◌≤◌, Bool, true, false, nat_eq, List, [], ◌∷◌, length, get_or, ◌⊎◌, inl, inr, sym, ◌∙◌, arith}
use Rattle.std.specs.List.{position_or_len}
use Rattle.std.specs.Cmp.{nat_cmp_is}
use Rattle.std.specs.Ordering.{nat_cmp}
use Rattle.std.specs.declared.cmp.Ordering.TheVariants.{Less, Equal, Greater}
use Rattle.std.proofs.lemmas.Bool.{cases_order, eq-eqb, ne_eqb}
use Rattle.std.proofs.lemmas.List.Sums.{position_or_len_is}
use Rattle.mt_corpus_spec.specs.Groups.{Group}
use Rattle.mt_corpus_spec.specs.Segments.{live_numbers}

-- each number is below those behind it
abbrev pub Ascends : List ℕ → Type 0
Ascends numbers = (i j : ℕ) → i < j → j < length numbers → get_or numbers i 0 < get_or numbers j 0

-- the live numbers of a group ascend from its first one on
record RiseFrom (first : ℕ) (numbers : List ℕ) : Type 0 where
  low : (k : ℕ) → k < length numbers → first ≤ get_or numbers k 0
  ascends : (i j : ℕ) → i < j → j < length numbers → get_or numbers i 0 < get_or numbers j 0

rise : (group : Group) (first : ℕ) → RiseFrom first (live_numbers first group)
rise [] first = record { low = λ k l. absurd (omega (arith, l)); ascends = λ i j b l. absurd (omega (arith, l)) }
rise ((text, live) ∷ group) first = by live (rise group (first + 1))
  where
    by : (b : Bool) → RiseFrom (first + 1) (live_numbers (first + 1) group) → RiseFrom first (live_numbers first ((text, b) ∷ group))
    by true r = record { low = low; ascends = ascends }
      where
        low : (k : ℕ) → k < length (first ∷ live_numbers (first + 1) group) → first ≤ get_or (first ∷ live_numbers (first + 1) group) k 0
        low zero l = omega arith
        low (suc k) l = let m = r.low k (omega (arith, l)) in omega (arith, m)

        ascends : (i j : ℕ) → i < j → j < length (first ∷ live_numbers (first + 1) group) → get_or (first ∷ live_numbers (first + 1) group) i 0 < get_or (first ∷ live_numbers (first + 1) group) j 0
        ascends i zero b l = absurd (omega (arith, b))
        ascends zero (suc j) b l = let m = r.low j (omega (arith, l)) in omega (arith, m)
        ascends (suc i) (suc j) b l = r.ascends i j (omega (arith, b)) (omega (arith, l))
    by false r = record { low = λ k l. let m = r.low k l in omega (arith, m); ascends = r.ascends }

pub live_ascend : (group : Group) → Ascends (live_numbers 0 group)
live_ascend group = (rise group 0).ascends

module _ (live : List ℕ) (up : Ascends live) where
  -- the place of the number that stands at a place
  pub place_is : (k : ℕ) → k < length live → position_or_len (nat_eq (get_or live k 0)) live ≡ k
  place_is k l = position_or_len_is (nat_eq (get_or live k 0)) live k 0 (omega (arith, l))
      (λ j b. let below = up j k b l in ne_eqb (get_or live k 0) (get_or live j 0) (λ e. let f : ⊥ = omega (arith, below, e) in f))
      (λ m. eq-eqb (get_or live k 0) (get_or live k 0) (omega arith))

  -- places are in the order of their numbers
  pub same_order : (before i j : ℕ) → i < length live → j < length live → nat_cmp (before + i) (before + j) ≡ nat_cmp (get_or live i 0) (get_or live j 0)
  same_order before i j l m = by (cases_order i j)
    where
      by : (i ≡ j) ⊎ ((i < j) ⊎ (j < i)) → nat_cmp (before + i) (before + j) ≡ nat_cmp (get_or live i 0) (get_or live j 0)
      by (inl e) = sym (nat_cmp_is (before + i) (before + j) Equal (omega (arith, e))) ∙ nat_cmp_is (get_or live i 0) (get_or live j 0) Equal (λ n. get_or live (e n) 0)
      by (inr (inl b)) = sym (nat_cmp_is (before + i) (before + j) Less (omega (arith, b))) ∙ nat_cmp_is (get_or live i 0) (get_or live j 0) Less (up i j b m)
      by (inr (inr b)) = sym (nat_cmp_is (before + i) (before + j) Greater (omega (arith, b))) ∙ nat_cmp_is (get_or live i 0) (get_or live j 0) Greater (up j i b l)
