-- Lists of positions, by recursion.
use Rattle.std.proofs.Common.{ℕ, zero, suc, ◌≡◌, ◌+◌, ◌<◌, ◌≤◌, List, [], ◌∷◌, length, drop, get_or, ap, subst, inl, inr, arith, add-one}
use Rattle.std.specs.List.{All}
use Rattle.std.proofs.lemmas.List.Elements.{All-nil, All-cons, All-head, All-tail}
use Rattle.std.proofs.lemmas.List.Kept.{AllPairs-from_increasing}
use Rattle.std.proofs.lemmas.Bool.{cases_order}
use Rattle.mt_store_spec.specs.Positions.{ArePositions}
use Rattle.mt_postings.specs.Following.{Follow}

-- ascending from a least one on
abbrev pub From : ℕ → List ℕ → Type 0
From least ps = Follow least ps

later : (p : ℕ) (ps : List ℕ) (k : ℕ) → get_or (p ∷ ps) (k + 1) 0 ≡ get_or ps k 0
later p ps k = ap (λ x. get_or (p ∷ ps) x 0) (add-one k)

tail_positions : (p : ℕ) (ps : List ℕ) → ArePositions (p ∷ ps) → ArePositions ps
tail_positions p ps a =
    record {
      ascending = λ k s.
          let x = later p ps k in
          let y = later p ps (k + 1) in
          let h = a.ascending (k + 1) (omega arith) in
          omega arith;
      in_range = All-tail (λ p. p < 4294967295) p ps a.in_range;
    }

pub from_positions : (least : ℕ) (ps : List ℕ) → ArePositions ps → least ≤ 4294967295 → (0 < length ps → least ≤ get_or ps 0 0) → From least ps
from_positions least [] a l h = l
from_positions least (p ∷ ps) a l h =
    let here : p < 4294967295 = All-head (λ p. p < 4294967295) p ps a.in_range in
    (h (omega arith), here, from_positions (p + 1) ps (tail_positions p ps a) (omega arith) (λ s. let n = a.ascending 0 (omega arith) in let x = later p ps 0 in omega arith))

pub from_start : (ps : List ℕ) → ArePositions ps → From 0 ps
from_start ps a = from_positions 0 ps a (omega arith) (λ _. omega arith)

from_head : (least : ℕ) (ps : List ℕ) → From least ps → 0 < length ps → least ≤ get_or ps 0 0
from_head least [] f l = absurd (omega arith)
from_head least (p ∷ ps) f l = f.0

ascending_from : (least : ℕ) (ps : List ℕ) → From least ps → (k : ℕ) → k + 1 < length ps → get_or ps k 0 < get_or ps (k + 1) 0
ascending_from least [] f k l = absurd (omega arith)
ascending_from least (p ∷ ps) f zero l =
    let h = from_head (p + 1) ps f.2 (omega arith) in
    let x = later p ps 0 in
    omega arith
ascending_from least (p ∷ ps) f (suc k) l =
    let h = ascending_from (p + 1) ps f.2 k (omega arith) in
    let x = later p ps (k + 1) in
    let e : suc k + 1 ≡ k + 1 + 1 = omega arith in
    rw e (omega arith)

range_from : (least : ℕ) (ps : List ℕ) → From least ps → All (λ p. p < 4294967295) ps
range_from least [] f = All-nil (λ p. p < 4294967295)
range_from least (p ∷ ps) f = All-cons (λ p. p < 4294967295) p ps f.1 (range_from (p + 1) ps f.2)

pub positions_from : (least : ℕ) (ps : List ℕ) → From least ps → ArePositions ps
positions_from least ps f = record { ascending = λ k l. ascending_from least ps f k l; in_range = range_from least ps f }

pub from_weaker : (less least : ℕ) (ps : List ℕ) → less ≤ least → From least ps → From less ps
from_weaker less least [] l f = omega arith
from_weaker less least (p ∷ ps) l f = (let h = f.0 in omega arith, f.1, f.2)

-- there are at most as many as there are places
pub length_from : (least : ℕ) (ps : List ℕ) → From least ps → length ps + least ≤ 4294967295
length_from least [] f = omega arith
length_from least (p ∷ ps) f =
    let h = length_from (p + 1) ps f.2 in
    let l = f.0 in
    omega arith

pub length_positions : (ps : List ℕ) → ArePositions ps → length ps ≤ 4294967295
length_positions ps a = let h = length_from 0 ps (from_start ps a) in omega arith

drop_from : (n least : ℕ) (ps : List ℕ) → From least ps → From least (drop n ps)
drop_from zero least ps f = f
drop_from (suc n) least [] f = f
drop_from (suc n) least (p ∷ ps) f = from_weaker least (p + 1) (drop n ps) (let l = f.0 in omega arith) (drop_from n (p + 1) ps f.2)

pub drop_positions : (n : ℕ) (ps : List ℕ) → ArePositions ps → ArePositions (drop n ps)
drop_positions n ps a = positions_from 0 (drop n ps) (drop_from n 0 ps (from_start ps a))

pub rest_positions : (p : ℕ) (ps all : List ℕ) → all ≡ p ∷ ps → ArePositions all → ArePositions ps
rest_positions p ps all e a = tail_positions p ps (subst ArePositions e a)

-- one place is not below an earlier one
pub not_below : (ps : List ℕ) (i j : ℕ) → ArePositions ps → i ≤ j → j < length ps → get_or ps i 0 ≤ get_or ps j 0
not_below ps i j a l m =
    elim (cases_order i j) [
      | inl e ↦ rw e (omega arith)
      | inr o ↦ elim o [ inl b ↦ let h = AllPairs-from_increasing ps a.ascending i j 0 b m in omega arith | inr b ↦ absurd (omega arith) ]
    ]
