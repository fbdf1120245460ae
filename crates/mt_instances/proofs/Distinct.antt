-- A sorted list that keeps one of equal items has each of them once.
use Rattle.std.proofs.Common.{◌≡◌, Bool, true, List, [], ◌∷◌, sym, ◌∙◌}
use Rattle.std.specs.List.{dedup}
use Rattle.std.specs.List.Sorted.{IsStrictlySortedBy, IsSorted, IsPermutation}
use Rattle.std.specs.declared.cmp.Ordering.{Ordering}
use Rattle.std.specs.declared.cmp.Ordering.TheVariants.{Less, Equal}
use Rattle.std.specs.Cmp.{IsTotalOrder, IsEquivalence}
use Rattle.std.specs.Ordering.{eq_by_cmp}
use Rattle.std.proofs.lemmas.Cmp.{tied_itself}
use Rattle.std.proofs.lemmas.List.Kept.{Contains-dedup, Contains-from_dedup, IsStrictlySortedBy-dedup}
use Rattle.std.proofs.lemmas.List.Sorted.{Contains-permutation, IsPermutation-sym}
use Rattle.std.proofs.lemmas.List.Elements.{All-from_recursion, All-contains}
use Rattle.mt_count_spec.specs.Counts.{EachOnce}
use Rattle.mt_instances.specs.Members.{HaveSameItems}

module _ {X : Type 0} {R : X → X → Ordering} (o : IsTotalOrder R) where
  not_itself : (x : X) → R x x ≡ Less → ⊥
  not_itself x e = let same : Equal ≡ Less = sym (tied_itself o x) ∙ e in cc

  once_sorted : (xs : List X) → IsStrictlySortedBy R xs → EachOnce xs
  unfolding IsStrictlySortedBy
  once_sorted [] s = tt
  once_sorted (x ∷ xs) s = (λ h. not_itself x (All-contains (λ y. R x y ≡ Less) xs x (All-from_recursion (λ y. R x y ≡ Less) xs s.0) h), once_sorted xs s.1)

  module _ {E : X → X → Bool} (e : IsEquivalence E) (ties : (x y : X) → E x y ≡ eq_by_cmp R x y) (exact : (x y : X) → E x y ≡ true → x ≡ y) where
    pub kept_once : (sorted : List X) → IsSorted R sorted → EachOnce (dedup E sorted)
    kept_once sorted s = once_sorted (dedup E sorted) (IsStrictlySortedBy-dedup o ties sorted s)

    pub kept_same : (old sorted : List X) → IsPermutation old sorted → HaveSameItems old (dedup E sorted)
    kept_same old sorted moved = record {
      to = λ x h. Contains-dedup e exact sorted x (Contains-permutation old sorted x moved h);
      from = λ x h. Contains-permutation sorted old x (IsPermutation-sym old sorted moved) (Contains-from_dedup E sorted x h);
    }
