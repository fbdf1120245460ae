-- What differs is told apart by a test, and what is sorted and told apart ascends.
use Rattle.std.proofs.Common.{◌≡◌, ◌≢◌, ℕ, zero, suc, ◌<◌, inl, inr, Bool, false, cond, List, [], ◌∷◌, length, get_or, refl, ◌∙◌, ap, subst, arith}
use Rattle.std.specs.List.{AllPairs, IsDistinct, dedup, dedup_from}
use Rattle.std.specs.List.Sorted.{IsStrictlySortedBy, IsSorted}
use Rattle.std.specs.declared.cmp.Ordering.{Ordering}
use Rattle.std.specs.declared.cmp.Ordering.TheVariants.{Less, Equal, Greater}
use Rattle.std.specs.Ordering.{is_eq, ordering_reverse}
use Rattle.std.specs.Cmp.{IsTotalOrder}
use Rattle.std.proofs.lemmas.List.Elements.{recursion_from_All}
use Rattle.std.proofs.lemmas.List.Kept.{IsStrictlySortedBy-dedup}
use Rattle.std.proofs.lemmas.Map.Keys.{IsDistinct-head, IsDistinct-tail}
use Rattle.mt_match_laws.proofs.Members.{Member}

pub at_index : {X : Type 0} (xs : List X) (k : ℕ) (d : X) → k < length xs → Member (get_or xs k d) xs
at_index [] k d l = absurd (omega (arith, l))
at_index (x ∷ xs) zero d l = inl refl
at_index (x ∷ xs) (suc k) d l = inr (at_index xs k d (omega (arith, l)))

pub distinct_from : {X : Type 0} (eq : X → X → Bool) (P : X → Type 0) → ((x y : X) → P x → P y → x ≢ y → eq x y ≡ false) → (xs : List X) → ((x : X) → Member x xs → P x) → AllPairs (λ x y. x ≢ y) xs → IsDistinct eq xs
unfolding IsDistinct
distinct_from eq P apart [] all once = tt
distinct_from {X} eq P apart (x ∷ xs) all once = (
  recursion_from_All (λ y. eq x y ≡ false) xs (λ k d l. apart x (get_or xs k d) (all x (inl refl)) (all (get_or xs k d) (inr (at_index xs k d l))) (once 0 (suc k) d (omega arith) (omega (arith, l)))),
  distinct_from eq P apart xs (λ y m. all y (inr m)) (λ i j d l m. once (suc i) (suc j) d (omega (arith, l)) (omega (arith, m))),
)

module _ {X : Type 0} {order : X → X → Ordering} (o : IsTotalOrder order) where
  flipped : (a b : X) → is_eq (order a b) ≡ is_eq (order b a)
  flipped a b = by (order a b) (order b a) (o.antisymm a b)
    where
      by : (one other : Ordering) → one ≡ ordering_reverse other → is_eq one ≡ is_eq other
      by Less Less e = cc
      by Less Equal e = cc
      by Less Greater e = refl
      by Equal Less e = cc
      by Equal Equal e = refl
      by Equal Greater e = cc
      by Greater Less e = refl
      by Greater Equal e = cc
      by Greater Greater e = cc

  kept_all : (x : X) (xs : List X) → IsDistinct (λ a b. is_eq (order a b)) (x ∷ xs) → dedup_from (λ a b. is_eq (order a b)) x xs ≡ x ∷ xs
  kept_all x [] h = refl
  kept_all x (y ∷ ys) h =
      let apart : is_eq (order y x) ≡ false = flipped y x ∙ (IsDistinct-head (λ a b. is_eq (order a b)) x (y ∷ ys) h).0 in
      ap (λ (b : Bool). cond b (dedup_from (λ a b. is_eq (order a b)) x ys) (x ∷ dedup_from (λ a b. is_eq (order a b)) y ys)) apart
      ∙ ap (λ (zs : List X). x ∷ zs) (kept_all y ys (IsDistinct-tail (λ a b. is_eq (order a b)) x (y ∷ ys) h))

  all_kept : (xs : List X) → IsDistinct (λ a b. is_eq (order a b)) xs → dedup (λ a b. is_eq (order a b)) xs ≡ xs
  all_kept [] h = refl
  all_kept (x ∷ xs) h = kept_all x xs h

  pub strictly : (xs : List X) → IsSorted order xs → IsDistinct (λ a b. is_eq (order a b)) xs → IsStrictlySortedBy order xs
  strictly xs sorted distinct = subst (IsStrictlySortedBy order) (all_kept xs distinct) (IsStrictlySortedBy-dedup o (λ a b. refl) xs sorted)

  pub turned : (a b : X) → is_eq (order a b) ≡ is_eq (order b a)
  turned = flipped
