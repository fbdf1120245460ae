-- Every fraction above 0 and below 2 has a score.
use Rattle.std.proofs.Common.{◌≡◌, ℕ, zero, suc, ◌+◌, ◌*◌, ◌^◌, ◌<◌, ◌≤◌, ℤ, pos, ◌-ℤ◌, get_or, inl, inr, ap, subst, arith}
use Rattle.std.proofs.Math.Nat.{pow-suc, mul-le-mul_right}
use Rattle.std.proofs.lemmas.Bool.{cases_lt}
use Rattle.std.proofs.lemmas.Int.{ints}
use Rattle.mt_sketch_spec.specs.Score.{IsScore}
use Rattle.mt_score.proofs.Scores.{by_table}
use Rattle.mt_score.specs.declared.dice.TheConstants.{CONSTANTS}

-- a fraction that is doubled until it is at least one
record Doubled (a s : ℕ) : Type 0 where
  pub times : ℕ
  pub enough : s ≤ a * 2 ^ times
  pub least : a * 2 ^ times < 2 * s

above : (r : ℕ) → r < 2 ^ r
above zero = omega arith
above (suc r) = let h = above r in omega (arith, pow-suc 2 r, h)

doubled_from : (fuel a s r : ℕ) → 0 < a → s ≤ r + fuel → a * 2 ^ r < 2 * s → Doubled a s
doubled_from zero a s r some all least =
    let p : r < 2 ^ r = above r in
    let q : 1 * 2 ^ r ≤ a * 2 ^ r = mul-le-mul_right (2 ^ r) some in
    record { times = r; enough = omega (arith, p, q); least = least }
doubled_from (suc fuel) a s r some all least =
    elim (cases_lt (a * 2 ^ r) s) [
      | inl less ↦ let twice : a * 2 ^ suc r ≡ a * 2 ^ r * 2 = omega (arith, ap (λ x. a * x) (pow-suc 2 r)) in doubled_from fuel a s (suc r) some (omega arith) (omega (arith, twice, less))
      | inr enough ↦ record { times = r; enough = enough; least = least }
    ]

-- the last constant that is within a limit
record Last (s limit : ℕ) : Type 0 where
  pub index : ℕ
  pub few : index < 16
  pub within : s * get_or CONSTANTS index 0 ≤ limit
  pub last : index < 15 → limit < s * get_or CONSTANTS (index + 1) 0

last_from : (s limit j : ℕ) → j < 16 → s * get_or CONSTANTS 0 0 ≤ limit → (j < 15 → limit < s * get_or CONSTANTS (j + 1) 0) → Last s limit
last_from s limit zero few one past = record { index = 0; few = few; within = one; last = past }
last_from s limit (suc j) few one past =
    elim (cases_lt limit (s * get_or CONSTANTS (suc j) 0)) [
      | inl less ↦ last_from s limit j (omega arith) one (λ h. let e : suc j ≡ j + 1 = omega arith in subst (λ (i : ℕ). limit < s * get_or CONSTANTS i 0) e less)
      | inr within ↦ record { index = suc j; few = few; within = within; last = past }
    ]

pub has_score : (a s : ℕ) → 0 < a → a < 2 * s → (k : ℤ) × IsScore a s k
has_score a s some below =
    let d = doubled_from s a s 0 some (omega arith) (omega arith) in
    let limit : ℕ = a * 10 ^ 9 * 2 ^ d.times in
    let l : Last s limit = last_from s limit 15 (omega arith) (omega (arith, d.enough)) (λ h. absurd (omega (arith, h))) in
    let k : ℤ = pos (16 * 14 + l.index) -ℤ pos (16 * d.times) in
    (k, by_table a s d.times l.index k (omega (arith, ints)) l.few d.least l.within l.last)
