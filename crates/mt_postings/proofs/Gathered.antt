-- Positions that were sorted, each kept once.
use Rattle.std.proofs.Common.{ℕ, ◌≡◌, ◌<◌, ◌↔◌, eqb, List, ◌++◌, Result, Ok, Err, length, get_or, sym, ap, subst, arith}
use Rattle.std.specs.List.{All, Contains, dedup}
use Rattle.std.specs.List.Sorted.{IsPermutation}
use Rattle.std.specs.Result.{IfOk, OnOk, OnErr}
use Rattle.mt_store_spec.specs.Positions.{ArePositions}
use Rattle.std.proofs.lemmas.List.{length-append}
use Rattle.std.proofs.lemmas.List.Elements.{All-contains, All-from_get_or, Contains-get_or}
use Rattle.std.proofs.lemmas.List.Kept.{Contains-dedup_nat, Contains-from_dedup}
use Rattle.std.proofs.lemmas.List.Sorted.{Contains-permutation, IsPermutation-sym}

pub in_range_dedup : (xs : List ℕ) → All (λ p. p < 4294967295) xs → All (λ p. p < 4294967295) (dedup eqb xs)
in_range_dedup xs a =
    All-from_get_or (λ p. p < 4294967295) (dedup eqb xs) 0
    (λ k l. All-contains (λ p. p < 4294967295) xs (get_or (dedup eqb xs) k 0) a (Contains-from_dedup eqb xs (get_or (dedup eqb xs) k 0) (Contains-get_or (dedup eqb xs) k 0 l)))

members : (old sorted kept all : List ℕ) → kept ≡ dedup eqb sorted → IsPermutation old sorted → all ≡ kept → (p : ℕ) → Contains all p ↔ Contains old p
members old sorted kept all k m e p = (
  λ c. Contains-permutation sorted old p (IsPermutation-sym old sorted m) (Contains-from_dedup eqb sorted p (subst (λ x. Contains x p) k (subst (λ x. Contains x p) e c))),
  λ c. subst (λ x. Contains x p) (sym e) (subst (λ x. Contains x p) (sym k) (Contains-dedup_nat sorted p (Contains-permutation old sorted p m c))),
)

pub same_members : {E : Type 0} (r : Result (List ℕ) E) (old sorted kept : List ℕ) → kept ≡ dedup eqb sorted → IsPermutation old sorted → IfOk r (λ p. p ≡ kept) → IfOk r (λ all. (p : ℕ) → Contains all p ↔ Contains old p)
same_members (Ok all) old sorted kept k m e = members old sorted kept all k m e
same_members (Err e) old sorted kept k m h = tt

-- a coded list stays long where it is added to
pub after_append : {A E : Type 0} (r : Result A E) (old more new : List ℕ) → OnOk r (new ≡ old ++ more) → OnErr r (new ≡ old) → ArePositions (old ++ more) → ArePositions old → 128 < length old → ArePositions new × (128 < length new)
after_append (Ok a) old more new ok err whole valid long =
    let n = length-append old more in
    let k = ap length ok in
    (subst ArePositions (sym ok) whole, omega arith)
after_append (Err e) old more new ok err whole valid long =
    let k = ap length err in
    (subst ArePositions (sym err) valid, omega arith)
