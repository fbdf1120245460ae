-- Seeking in a list of positions.
use Rattle.std.proofs.Common.{ℕ, zero, suc, ◌≡◌, ◌+◌, ◌*◌, ◌^◌, ◌<◌, ◌≤◌, List, [], ◌∷◌, length, drop, get_or, refl, inl, inr, arith, add-one}
use Rattle.std.proofs.Math.Nat.{mul-le-mul_left, pow-suc}
use Rattle.std.proofs.lemmas.Bool.{cases_lt}
use Rattle.std.proofs.lemmas.Bool.Decides.{nat_tests}
use Rattle.mt_store_spec.specs.Codes.{log2}
use Rattle.mt_store_spec.specs.Positions.{from_least}
use Rattle.mt_postings.proofs.Deltas.{log2_bounds, pow_monotone, pow_more}

-- where the first k are below and the next is not, the others are those from `least` on
pub from_least_is : (least k : ℕ) (ps : List ℕ) → k ≤ length ps → ((i : ℕ) → i < k → get_or ps i 0 < least) → (k < length ps → least ≤ get_or ps k 0) → from_least least ps ≡ drop k ps
from_least_is least zero [] l b s = refl
from_least_is least (suc k) [] l b s = absurd (omega arith)
from_least_is least zero (p ∷ ps) l b s =
    let h : least ≤ p = s (omega arith) in
    grind (arith, nat_tests)
from_least_is least (suc k) (p ∷ ps) l b s =
    let h : p < least = b 0 (omega arith) in
    let r = from_least_is least k ps (omega arith) (λ i m. b (suc i) (omega arith)) (λ m. s (omega arith)) in
    grind (arith, nat_tests)

-- a look halves the range
pub halved : (n s m bound : ℕ) → 2 ^ n * s ≤ bound → 2 * m ≤ s → 2 ^ (n + 1) * m ≤ bound
halved n s m bound h k =
    let two : 2 ^ (n + 1) ≡ 2 ^ n * 2 = rw (add-one, pow-suc) refl in
    let grows : 2 ^ n * (2 * m) ≤ 2 ^ n * s = mul-le-mul_left (2 ^ n) k in
    rw two (omega arith)

pub last_look : (n s bound : ℕ) → 2 ^ n * s ≤ bound → 0 < s → 2 ^ (n + 1) ≤ 2 * bound + 1
last_look n s bound h k =
    let two : 2 ^ (n + 1) ≡ 2 ^ n * 2 = rw (add-one, pow-suc) refl in
    let grows : 2 ^ n * 1 ≤ 2 ^ n * s = mul-le-mul_left (2 ^ n) (omega arith) in
    rw two (omega arith)

pub power_le : (i n : ℕ) → 1 ≤ n → 2 ^ i ≤ n → i ≤ log2 n
power_le i n p h =
    let b = log2_bounds n p in
    elim (cases_lt i (log2 n + 1)) [
      | inl l ↦ omega arith
      | inr g ↦ let m = pow_monotone (log2 n + 1) i g in absurd (omega arith)
    ]

-- what both searches cost together
pub looks : (low n first second passed : ℕ) → 2 ^ n ≡ low + 1 → first ≤ n + 1 → 2 ^ second ≤ 2 * low + 1 → low ≤ passed → first + second ≤ 2 * log2 (passed + 1) + 1
looks low n first second passed e f s l =
    let a = power_le n (passed + 1) (omega arith) (omega arith) in
    let more = pow_more n in
    let b : second ≤ n = elim (cases_lt second (n + 1)) [ inl x ↦ omega arith | inr g ↦ let m = pow_monotone (n + 1) second g in absurd (omega arith) ] in
    omega arith
