-- A number is doubled until it has as many binary digits as another.
use Rattle.std.proofs.Common.{◌≡◌, ℕ, suc, ◌+◌, ◌-◌, ◌*◌, ◌^◌, ◌%◌, ◌<◌, ◌≤◌, ⊎_elim, sym, subst, ap, arith}
use Rattle.std.proofs.Math.Nat.{pow-suc, pow-le-pow_right, mul-le-mul_right, mul-lt-mul_of_pos_right}
use Rattle.std.proofs.lemmas.Nat.{leading_top, pow-add, pow_pos}
use Rattle.std.proofs.lemmas.Bool.{cases_lt}
use Rattle.std.specs.Int.Count.{count_leading_zeros}

pub record IsDoubled (a s r : ℕ) : Type 0 where
  pub above : s < a * 2 ^ r * 2
  pub below : a * 2 ^ r < 2 * s

-- nothing to do where it has as many digits or more
as_long : (a s t u : ℕ) → a < 2 * s → 2 ^ t ≤ a → s < 2 ^ suc u → u ≤ t → IsDoubled a s 0
as_long a s t u below_two t_low u_high h =
    let k : 2 ^ u ≤ 2 ^ t = pow-le-pow_right (omega arith) h in
    record { above = omega (arith, pow-suc 2 u, k); below = omega arith }

shorter : (a s t r : ℕ) → 2 ^ t ≤ a → a < 2 ^ suc t → 2 ^ (t + r) ≤ s → s < 2 ^ suc (t + r) → IsDoubled a s r
shorter a s t r t_low t_high u_low u_high =
    let low : 2 ^ t * 2 ^ r ≤ a * 2 ^ r = mul-le-mul_right (2 ^ r) t_low in
    let high : a * 2 ^ r < 2 ^ suc t * 2 ^ r = mul-lt-mul_of_pos_right t_high (pow_pos r) in
    let twice : 2 ^ suc t * 2 ^ r ≡ 2 ^ t * 2 * 2 ^ r = ap (λ x. x * 2 ^ r) (pow-suc 2 t) in
    record {
      above = omega (arith, low, pow-suc 2 (t + r), pow-add 2 t r);
      below = omega (arith, high, twice, pow-add 2 t r);
    }

by_digits : (a s t u r : ℕ) → a < 2 * s → 2 ^ t ≤ a → a < 2 ^ suc t → 2 ^ u ≤ s → s < 2 ^ suc u → r ≡ u - t → IsDoubled a s r
by_digits a s t u r below_two t_low t_high u_low u_high is =
    ⊎_elim
    (λ h.
    let e : t + r ≡ u = omega arith in
    shorter a s t r t_low t_high (let P : ℕ → Type 0 = λ v. 2 ^ v ≤ s in subst P (sym e) u_low) (let P : ℕ → Type 0 = λ v. s < 2 ^ suc v in subst P (sym e) u_high))
    (λ h. let e : r ≡ 0 = omega arith in let P : ℕ → Type 0 = λ v. IsDoubled a s v in subst P (sym e) (as_long a s t u below_two t_low u_high h))
    (cases_lt t u)

-- as the machine counts the zeros in front of 64 digits
pub by_zeros : (a s r : ℕ) → 1 ≤ a → a < 2 * s → a < 2 ^ 64 → s < 2 ^ 64 → r ≡ count_leading_zeros 64 a - count_leading_zeros 64 s → IsDoubled a s r
by_zeros a s r positive below_two a_fits s_fits is =
    let t = leading_top 64 a (omega arith) a_fits in
    let u = leading_top 64 s (omega arith) s_fits in
    by_digits a s t.0 u.0 r below_two t.2 t.3 u.2 u.3 (omega (arith, t.1, u.1))

-- below 2^41 there are at most 40 doublings
few_doublings : (a r : ℕ) → 1 ≤ a → a * 2 ^ r < 2 ^ 41 → r ≤ 40
few_doublings a r positive h =
    ⊎_elim
    (λ k. omega arith)
    (λ k.
    let p : 2 ^ 41 ≤ 2 ^ r = pow-le-pow_right (omega arith) k in
    let q : 1 * 2 ^ r ≤ a * 2 ^ r = mul-le-mul_right (2 ^ r) positive in
    absurd (omega (arith, p, q)))
    (cases_lt r 41)

-- doubled often enough, and no more
abbrev pub IsEnough : ℕ → ℕ → ℕ → Type 0
IsEnough a s r = record { enough : s ≤ a * 2 ^ r; least : a * 2 ^ r < 2 * s; few : r ≤ 40 }

pub is_enough : (a s r : ℕ) → 1 ≤ a → s ≤ 2 ^ 40 → IsDoubled a s r → s ≤ (a * 2 ^ r) % 2 ^ 64 → IsEnough a s r
is_enough a s r positive small d test =
    record { enough = omega (arith, d.below); least = d.below; few = few_doublings a r positive (omega (arith, d.below)) }

pub once_more : (a s r : ℕ) → 1 ≤ a → s ≤ 2 ^ 40 → IsDoubled a s r → (a * 2 ^ r) % 2 ^ 64 < s → IsEnough a s (r + 1)
once_more a s r positive small d test =
    let twice : a * 2 ^ (r + 1) ≡ a * 2 ^ r * 2 = omega (arith, ap (λ x. a * x) (pow-add 2 r 1)) in
    record {
      enough = omega (arith, d.above, twice);
      least = omega (arith, d.below, twice);
      few = few_doublings a (r + 1) positive (omega (arith, d.below, twice));
    }
