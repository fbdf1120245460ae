-- Scores by doubling step by step.
use Rattle.std.proofs.Common.{◌≡◌, ℕ, ◌+◌, ◌*◌, ◌/◌, ◌%◌, ◌^◌, ◌<◌, ◌≤◌, ℤ, pos, ◌+ℤ◌, get_or, ⊎_elim, ap, arith}
use Rattle.std.proofs.Math.Nat.{pow-le-pow_right, mul-le-mul_right, mul-le-mul_left, div-add-mod', lt-div-mul-add}
use Rattle.std.proofs.lemmas.Nat.{pow-add}
use Rattle.std.proofs.lemmas.Bool.{cases_lt}
use Rattle.mt_sketch_spec.specs.Score.{IsScore}
use Rattle.mt_score.proofs.Scores.{by_table}
use Rattle.mt_score.specs.declared.dice.TheConstants.{CONSTANTS}

pub few : (a r n : ℕ) → 0 < a → a * 2 ^ r < 2 ^ n → r < n
few a r n some h =
    ⊎_elim (λ k. k)
    (λ k.
    let p : 2 ^ n ≤ 2 ^ r = pow-le-pow_right (omega arith) k in
    let q : 1 * 2 ^ r ≤ a * 2 ^ r = mul-le-mul_right (2 ^ r) some in
    absurd (omega (arith, p, q)))
    (cases_lt r n)

pub doubled_once : (a d r : ℕ) → d ≡ a * 2 ^ r → d * 2 ≡ a * 2 ^ (r + 1)
doubled_once a d r e = omega (arith, ap (λ x. a * x) (pow-add 2 r 1))

pub by_quotient : (a s h j d q : ℕ) (k : ℤ) → k +ℤ pos (16 * h) ≡ pos (16 * 14 + j) → j < 16 → 0 < s → d ≡ a * 2 ^ h → d < 2 * s → q ≡ d * 10 ^ 9 / s → 1 * get_or CONSTANTS j 0 ≤ q → (j < 15 → q < 1 * get_or CONSTANTS (j + 1) 0) →
    IsScore a s k
by_quotient a s h j d q k is few some doubled below quotient within last =
    let e : s * q ≡ s * (d * 10 ^ 9 / s) = ap (λ x. s * x) quotient in
    let parts : d * 10 ^ 9 / s * s + d * 10 ^ 9 % s ≡ d * 10 ^ 9 = div-add-mod' (d * 10 ^ 9) s in
    let under : d * 10 ^ 9 < d * 10 ^ 9 / s * s + s = lt-div-mul-add some in
    let low : s * get_or CONSTANTS j 0 ≤ s * q = mul-le-mul_left s (omega (arith, within)) in
    by_table a s h j k is few (omega (arith, doubled)) (omega (arith, e, parts, low, doubled))
    (λ m.
    let high : s * (q + 1) ≤ s * get_or CONSTANTS (j + 1) 0 = mul-le-mul_left s (omega (arith, last m)) in
    omega (arith, e, under, high, doubled))
