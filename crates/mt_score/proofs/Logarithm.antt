-- A score against the logarithm itself, by sixteenth powers.
use Rattle.std.proofs.Common.{◌≡◌, ℕ, zero, suc, ◌+◌, ◌-◌, ◌*◌, ◌^◌, ◌<◌, ◌≤◌, ℤ, pos, negsuc, ◌+ℤ◌, get_or, ⊎_elim, refl, sym, ◌∙◌, ap, subst, arith}
use Rattle.std.proofs.Math.Nat.{pow-suc, pow-le-pow_left, pow-lt-pow_left, mul-le-mul_left, mul-le-mul_right, le_of_mul-le-mul_right}
use Rattle.std.proofs.lemmas.Nat.{pow-add, pow_pos, mul-pow}
use Rattle.std.proofs.lemmas.Bool.{cases_lt}
use Rattle.std.proofs.lemmas.Int.{ints}
use Rattle.mt_sketch_spec.specs.Score.{IsConstant, Reaches, IsScore, IsAtMostLog, ScoreIsLogDice}
use Rattle.mt_score.proofs.Constants.{billion, in_table, power_of, constant_from}
use Rattle.mt_score.specs.declared.dice.TheConstants.{CONSTANTS}

sixteenth_power : (h : ℕ) → (2 ^ h) ^ 16 ≡ 2 ^ (16 * h)
sixteenth_power zero = refl
sixteenth_power (suc h) =
    let last : 16 * h + 16 ≡ 16 * suc h = omega arith in
    ap (λ x. x ^ 16) (pow-suc 2 h) ∙ mul-pow (2 ^ h) 2 16 ∙ ap (λ x. x * 2 ^ 16) (sixteenth_power h) ∙ sym (pow-add 2 (16 * h) 16) ∙ ap (λ x. 2 ^ x) last

power_of_doubled : (a h : ℕ) → (a * 2 ^ h) ^ 16 ≡ a ^ 16 * 2 ^ (16 * h)
power_of_doubled a h = mul-pow a (2 ^ h) 16 ∙ ap (λ x. a ^ 16 * x) (sixteenth_power h)

-- one ratio by two pairs of powers
exchange : (x y i j m n : ℕ) → i + n ≡ m + j → x * 2 ^ i ≤ y * 2 ^ m → x * 2 ^ j ≤ y * 2 ^ n
exchange x y i j m n same h =
    let one : x * 2 ^ i * 2 ^ j ≤ y * 2 ^ m * 2 ^ j = mul-le-mul_right (2 ^ j) h in
    let left : 2 ^ i * 2 ^ n ≡ 2 ^ m * 2 ^ j = sym (pow-add 2 i n) ∙ ap (λ e. 2 ^ e) same ∙ pow-add 2 m j in
    let right : y * (2 ^ m * 2 ^ j) ≡ y * (2 ^ i * 2 ^ n) = ap (λ e. y * e) (sym left) in
    let two : x * 2 ^ j * 2 ^ i ≤ y * 2 ^ n * 2 ^ i = omega (arith, one, right) in
    le_of_mul-le-mul_right two (pow_pos i)

pub at_most_log : (a s h j : ℕ) (k : ℤ) → k +ℤ pos (16 * h) ≡ pos (16 * 14 + j) → s ^ 16 * 2 ^ j ≤ (a * 2 ^ h) ^ 16 → IsAtMostLog a s k
at_most_log a s h j (pos n) is low =
    let p : s ^ 16 * 2 ^ n ≤ a ^ 16 * 2 ^ 224 = exchange (s ^ 16) (a ^ 16) j n (16 * h) 224 (omega (arith, ints, is)) (omega (arith, low, power_of_doubled a h)) in
    omega (arith, p)
at_most_log a s h j (negsuc n) is low =
    let p : s ^ 16 * 2 ^ 0 ≤ a ^ 16 * 2 ^ (225 + n) = exchange (s ^ 16) (a ^ 16) j 0 (16 * h) (225 + n) (omega (arith, ints, is)) (omega (arith, low, power_of_doubled a h)) in
    omega (arith, p)

from_log : (a s h j : ℕ) (k : ℤ) → k +ℤ pos (16 * h) ≡ pos (16 * 14 + j) → IsAtMostLog a s k → s ^ 16 * 2 ^ j ≤ (a * 2 ^ h) ^ 16
from_log a s h j (pos n) is low =
    let p : s ^ 16 * 2 ^ j ≤ a ^ 16 * 2 ^ (16 * h) = exchange (s ^ 16) (a ^ 16) n j 224 (16 * h) (omega (arith, ints, is)) (omega (arith, low)) in
    omega (arith, p, power_of_doubled a h)
from_log a s h j (negsuc n) is low =
    let p : s ^ 16 * 2 ^ j ≤ a ^ 16 * 2 ^ (16 * h) = exchange (s ^ 16) (a ^ 16) 0 j (225 + n) (16 * h) (omega (arith, ints, is)) (omega (arith, low)) in
    omega (arith, p, power_of_doubled a h)

reached_log : (a s : ℕ) (k : ℤ) → Reaches a s k → IsAtMostLog a s k
reached_log a s k r =
    let x : ℕ = a * 2 ^ r.doublings in
    let c = r.constant in
    let same : a * 10 ^ 9 * 2 ^ r.doublings ≡ a * 2 ^ r.doublings * 10 ^ 9 = omega arith in
    let one : (s * c) ^ 16 ≤ (a * 2 ^ r.doublings * 10 ^ 9) ^ 16 = pow-le-pow_left (omega (arith, r.enough, same)) 16 in
    let two : s ^ 16 * power_of r.sixteenths ≤ s ^ 16 * c ^ 16 = mul-le-mul_left (s ^ 16) r.rounded.enough in
    let three : s ^ 16 * 2 ^ r.sixteenths * (10 ^ 9) ^ 16 ≤ (a * 2 ^ r.doublings) ^ 16 * (10 ^ 9) ^ 16 = omega (arith, one, two, mul-pow s c 16, mul-pow (a * 2 ^ r.doublings) (10 ^ 9) 16) in
    at_most_log a s r.doublings r.sixteenths k r.is (le_of_mul-le-mul_right three (omega arith))

-- the constant after each of the table: after the last it is two billions
next_constant : (j : ℕ) → j < 16 → (d : ℕ) × IsConstant (j + 1) d
next_constant j within =
    ⊎_elim
    (λ h. (get_or CONSTANTS (j + 1) 0, in_table (j + 1) (omega arith)))
    (λ h.
    let e : 16 ≡ j + 1 = omega arith in
    let P : ℕ → Type 0 = λ n. IsConstant n (2 * 10 ^ 9) in
    (2 * 10 ^ 9, subst P e (constant_from 16 (2 * 10 ^ 9) refl)))
    (cases_lt j 15)

two_billions : (d : ℕ) → IsConstant 16 d → 2 * 10 ^ 9 ≤ d
two_billions d is =
    ⊎_elim
    (λ h.
    let small : d ≤ 2 * 10 ^ 9 - 1 = omega arith in
    let r : d ^ 16 ≤ (2 * 10 ^ 9 - 1) ^ 16 = pow-le-pow_left small 16 in
    absurd (omega (arith, r, is.enough)))
    (λ h. h)
    (cases_lt d (2 * 10 ^ 9))

-- doubled for its score, a fraction is below two
below_two : (a s j h : ℕ) (k : ℤ) → k +ℤ pos (16 * h) ≡ pos (16 * 14 + j) → j < 16 → a < 2 * s → IsScore a s k → a * 2 ^ h < 2 * s
below_two a s j zero k is within small score = omega arith
below_two a s j (suc g) k is within small score =
    let twice : a * 2 ^ suc g ≡ a * 2 ^ g * 2 = omega (arith, ap (λ x. a * x) (pow-suc 2 g)) in
    ⊎_elim
    (λ h. omega (arith, h, twice))
    (λ h.
    let more = score.greatest (k +ℤ pos (16 - j)) (record {
      doublings = g;
      sixteenths = 0;
      constant = 10 ^ 9;
      is = omega (arith, ints, is);
      within = omega arith;
      rounded = in_table 0 (omega arith);
      enough = omega (arith, h);
    })
    in
    absurd (omega (arith, ints, more)))
    (cases_lt (a * 2 ^ g) s)

next_fails : (a s h j d : ℕ) (k : ℤ) → k +ℤ pos (16 * h) ≡ pos (16 * 14 + j) → j < 16 → a < 2 * s → IsScore a s k → IsConstant (j + 1) d → a * 10 ^ 9 * 2 ^ h < s * d
next_fails a s h j d k is within small score rounded =
    ⊎_elim
    (λ fewer.
    ⊎_elim
    (λ h. h)
    (λ enough.
    let more = score.greatest (k +ℤ pos 1) (record { doublings = h; sixteenths = j + 1; constant = d; is = omega (arith, ints, is); within = omega arith; rounded = rounded; enough = enough }) in
    absurd (omega (arith, ints, more)))
    (cases_lt (a * 10 ^ 9 * 2 ^ h) (s * d)))
    (λ last.
    let P : ℕ → Type 0 = λ n. IsConstant n d in
    let e : j + 1 ≡ 16 = omega arith in
    let big : s * (2 * 10 ^ 9) ≤ s * d = mul-le-mul_left s (two_billions d (subst P e rounded)) in
    omega (arith, big, below_two a s j h k is within small score))
    (cases_lt j 15)

-- less by a billionth, the fraction is below the power itself
above_log : (a s h j d e : ℕ) → d ≡ e + 1 → IsConstant j d → a * 10 ^ 9 * 2 ^ h < s * d → (a * (10 ^ 9 - 1) * 2 ^ h) ^ 16 < (s * 10 ^ 9) ^ 16 * 2 ^ j
above_log a s h j d e is rounded fails =
    let bigger : s * 10 ^ 9 ≤ s * d = mul-le-mul_left s (billion j d rounded) in
    let split : s * d ≡ s * (e + 1) = ap (λ x. s * x) is in
    let below : a * (10 ^ 9 - 1) * 2 ^ h < s * e = omega (arith, fails, bigger, split) in
    let one : (a * (10 ^ 9 - 1) * 2 ^ h) ^ 16 < (s * e) ^ 16 = pow-lt-pow_left below (λ z. absurd (omega arith)) in
    let short : e ^ 16 ≤ power_of j =
    ⊎_elim (λ h. omega arith) (λ h. let k : d ≤ e = rounded.least e h in absurd (omega arith)) (cases_lt (e ^ 16) (power_of j))
    in
    let two : s ^ 16 * e ^ 16 ≤ s ^ 16 * power_of j = mul-le-mul_left (s ^ 16) short in
    omega (arith, one, two, mul-pow s e 16, ap (λ x. x * 2 ^ j) (mul-pow s (10 ^ 9) 16))

pub log_dice : ScoreIsLogDice
log_dice a s k small score =
    let r = score.reached in
    let next = next_constant r.sixteenths r.within in
    let fails = next_fails a s r.doublings r.sixteenths next.0 k r.is r.within small score next.1 in
    let above = above_log a s r.doublings (r.sixteenths + 1) next.0 (next.0 - 1) (omega (arith, billion (r.sixteenths + 1) next.0 next.1)) next.1 fails in (
      reached_log a s k r,
      λ low.
          let h = from_log (a * (10 ^ 9 - 1)) (s * 10 ^ 9) r.doublings (r.sixteenths + 1) (k +ℤ pos 1) (omega (arith, ints, r.is)) low in
          absurd (omega (arith, above, h)),
    )
