-- A score that is reached is the greatest where the next is not.
use Rattle.std.proofs.Common.{◌≡◌, ℕ, ◌+◌, ◌*◌, ◌^◌, ◌<◌, ◌≤◌, ℤ, pos, ◌+ℤ◌, get_or, ⊎_elim, ap, arith}
use Rattle.std.proofs.Math.Nat.{pow-le-pow_right, mul-le-mul_left}
use Rattle.std.proofs.lemmas.Nat.{pow-add}
use Rattle.std.proofs.lemmas.Bool.{cases_lt}
use Rattle.std.proofs.lemmas.Int.{ints, by_lt_z}
use Rattle.mt_sketch_spec.specs.Score.{IsScore}
use Rattle.mt_score.proofs.Constants.{rises, billion, in_table}
use Rattle.mt_score.specs.declared.dice.TheConstants.{CONSTANTS}

-- with fewer doublings the fraction stays below the whole
too_few : (a s h g c : ℕ) → g < h → a * 2 ^ h < 2 * s → 10 ^ 9 ≤ c → a * 10 ^ 9 * 2 ^ g < s * c
too_few a s h g c fewer least big =
    let p : 2 ^ (g + 1) ≤ 2 ^ h = pow-le-pow_right (omega arith) (omega arith) in
    let q : a * 2 ^ (g + 1) ≤ a * 2 ^ h = mul-le-mul_left a p in
    let twice : a * 2 ^ (g + 1) ≡ a * 2 ^ g * 2 = omega (arith, ap (λ x. a * x) (pow-add 2 g 1)) in
    let r : s * 10 ^ 9 ≤ s * c = mul-le-mul_left s big in
    omega (arith, q, twice, r)

pub by_table : (a s h j : ℕ) (k : ℤ) → k +ℤ pos (16 * h) ≡ pos (16 * 14 + j) → j < 16 → a * 2 ^ h < 2 * s → s * get_or CONSTANTS j 0 ≤ a * 10 ^ 9 * 2 ^ h → (j < 15 → a * 10 ^ 9 * 2 ^ h < s * get_or CONSTANTS (j + 1) 0) →
    IsScore a s k
by_table a s h j k is within least reached last = record {
  reached = record { doublings = h; sixteenths = j; constant = get_or CONSTANTS j 0; is = is; within = within; rounded = in_table j within; enough = reached };
  greatest = λ other r. by_lt_z k other
      (λ more.
      let order : 16 * r.doublings + j < 16 * h + r.sixteenths = omega (arith, ints, r.is) in
      ⊎_elim
      (λ fewer. let low = too_few a s h r.doublings r.constant fewer least (billion r.sixteenths r.constant r.rounded) in absurd (omega (arith, low, r.enough)))
      (λ as_many.
      let same : r.doublings ≡ h = omega (arith, r.within) in
      let next : get_or CONSTANTS (j + 1) 0 ≤ r.constant = rises (j + 1) r.sixteenths _ r.constant (omega arith) (in_table (j + 1) (omega (arith, r.within))) r.rounded in
      let p : s * get_or CONSTANTS (j + 1) 0 ≤ s * r.constant = mul-le-mul_left s next in
      let q : a * 10 ^ 9 * 2 ^ r.doublings ≡ a * 10 ^ 9 * 2 ^ h = ap (λ x. a * 10 ^ 9 * 2 ^ x) same in
      absurd (omega (arith, p, q, r.enough, last (omega (arith, r.within)))))
      (cases_lt r.doublings h))
      (λ h. h);
}
