-- A score is unique, and rises with the fraction.
use Rattle.std.proofs.Common.{ℕ, ◌*◌, ◌^◌, ◌<◌, ◌≤◌, ℤ, pos, ◌+ℤ◌, ◌≤ℤ◌, arith}
use Rattle.std.proofs.Math.Nat.{mul-le-mul_right, le_of_mul-le-mul_right}
use Rattle.std.proofs.lemmas.Int.{ints}
use Rattle.mt_sketch_spec.specs.Score.{Reaches, ScoreIsWithinASixteenth, ScoreIsUnique, ScoreIsMonotone}

pub within_a_sixteenth : ScoreIsWithinASixteenth
within_a_sixteenth a s k is =
    (is.reached, λ next. let h : (k +ℤ pos 1) ≤ℤ k = is.greatest (k +ℤ pos 1) next in absurd (omega (arith, ints, h)))

pub unique : ScoreIsUnique
unique a s k m is other =
    let low : m ≤ℤ k = is.greatest m other.reached in
    let high : k ≤ℤ m = other.greatest k is.reached in
    omega (arith, ints, low, high)

-- what a fraction reaches, one that is not less reaches
reaches_more : (a s b t : ℕ) (k : ℤ) → 0 < s → a * t ≤ b * s → Reaches a s k → Reaches b t k
reaches_more a s b t k some order r =
    let x : ℕ = 10 ^ 9 * 2 ^ r.doublings in
    let one : s * r.constant * t ≤ a * 10 ^ 9 * 2 ^ r.doublings * t = mul-le-mul_right t r.enough in
    let two : a * t * (10 ^ 9 * 2 ^ r.doublings) ≤ b * s * (10 ^ 9 * 2 ^ r.doublings) = mul-le-mul_right (10 ^ 9 * 2 ^ r.doublings) order in
    let three : t * r.constant * s ≤ b * 10 ^ 9 * 2 ^ r.doublings * s = omega (arith, one, two) in
    record {
      doublings = r.doublings;
      sixteenths = r.sixteenths;
      constant = r.constant;
      is = r.is;
      within = r.within;
      rounded = r.rounded;
      enough = le_of_mul-le-mul_right three some;
    }

pub monotone : ScoreIsMonotone
monotone a s b t k m some order is larger = larger.greatest k (reaches_more a s b t k some order is.reached)
