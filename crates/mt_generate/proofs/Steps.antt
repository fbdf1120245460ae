-- Steps of the generator that are made at once.
use Rattle.std.proofs.Common.{◌≡◌, ℕ, zero, suc, ◌+◌, ◌*◌, ◌/◌, ◌%◌, ◌^◌, refl, sym, ap, ap₂, ◌∙◌, arith}
use Rattle.std.proofs.Math.Nat.{mul_assoc, mul-add, mul_comm}
use Rattle.std.proofs.lemmas.Nat.{mul-mod_first, mul-mod_second}
use Rattle.mt_generate_spec.specs.Draws.{drawn, behind_draws}

-- a step of a generator
step : ℕ → ℕ → ℕ → ℕ
step times plus number = (number * times + plus) % 2 ^ 64

-- a product of a sum, spread
spread : (n t p u : ℕ) → (n * t + p) * u ≡ n * (t * u) + p * u
spread n t p u = mul_comm (n * t + p) u ∙ mul-add u (n * t) p ∙ omega (arith, mul_comm u (n * t), mul_assoc n t u, mul_comm u p)

-- two steps, one after the other, are one
composed : (t p u q n : ℕ) → step u q (step t p n) ≡ step ((t * u) % 2 ^ 64) (((p * u) % 2 ^ 64 + q) % 2 ^ 64) n
unfolding step
composed t p u q n = omega (arith, mul-mod_first (n * t + p) u (2 ^ 64), mul-mod_second n (t * u) (2 ^ 64), spread n t p u)

pub two_draws : (n : ℕ) → (n * 7520897724310334953 + 1876011003808476466) % 2 ^ 64 ≡ drawn (drawn n)
unfolding step
two_draws n = sym (composed 6364136223846793005 1442695040888963407 6364136223846793005 1442695040888963407 n)

pub three_draws : (n : ℕ) → (n * 793875393913628917 + 11166244414315200793) % 2 ^ 64 ≡ drawn (drawn (drawn n))
unfolding step
three_draws n = sym (composed 7520897724310334953 1876011003808476466 6364136223846793005 1442695040888963407 n) ∙ ap drawn (two_draws n)

-- ---- steps of any length

-- behind some draws, more are made
behind_both : (seed some more : ℕ) → behind_draws (behind_draws seed some) more ≡ behind_draws seed (more + some)
unfolding behind_draws
behind_both seed some zero = let e : some ≡ 0 + some = omega arith in ap (behind_draws seed) e
behind_both seed some (suc more) = let e : suc (more + some) ≡ suc more + some = omega arith in ap drawn (behind_both seed some more) ∙ ap (behind_draws seed) e

-- these numbers make so many draws at once
abbrev pub IsLeap : ℕ → ℕ → ℕ → Type 0
IsLeap draws times plus = (number : ℕ) → (number * times + plus) % 2 ^ 64 ≡ behind_draws number draws

-- The number is that behind some draws, and the ones that are left are made by leaps, each of which is twice as long as the one before it.
pub record AreLeft (seed draws number times plus left : ℕ) : Type 0 where
  pub done : ℕ
  pub each : ℕ
  pub leap : IsLeap each times plus
  pub here : number ≡ behind_draws seed done
  pub all : done + each * left ≡ draws

pub first_leap : (seed draws : ℕ) → AreLeft seed draws seed 6364136223846793005 1442695040888963407 draws
unfolding behind_draws
first_leap seed draws = record { done = 0; each = 1; leap = λ number. refl; here = refl; all = omega arith }

pub no_leap : (seed draws number times plus : ℕ) → AreLeft seed draws number times plus 0 → number ≡ behind_draws seed draws
no_leap seed draws number times plus h = let e : h.done ≡ draws = omega (arith, h.all) in h.here ∙ ap (behind_draws seed) e

-- a leap that is twice as long
twice : (each times plus more other : ℕ) → IsLeap each times plus → more ≡ (plus * times + plus) % 2 ^ 64 → other ≡ (times * times) % 2 ^ 64 → IsLeap (each + each) other more
unfolding step
twice each times plus more other h is_more is_other = λ number.
    let one : more ≡ ((plus * times) % 2 ^ 64 + plus) % 2 ^ 64 = omega (arith, is_more) in
    ap₂ (λ (t p : ℕ). (number * t + p) % 2 ^ 64) is_other one ∙ sym (composed times plus times plus number) ∙ ap (λ (n : ℕ). (n * times + plus) % 2 ^ 64) (h number) ∙ h (behind_draws number each) ∙ behind_both number each each

halved_even : (each half left : ℕ) → left ≡ half + half → (each + each) * half ≡ each * left
halved_even each half left e = rw e (mul_comm (each + each) half ∙ mul-add half each each ∙ ap₂ (λ (a b : ℕ). a + b) (mul_comm half each) (mul_comm half each) ∙ sym (mul-add each half half))

halved_odd : (each half left : ℕ) → left ≡ half + half + 1 → each + (each + each) * half ≡ each * left
halved_odd each half left e =
    let one : each * (half + half + 1) ≡ each * (half + half) + each * 1 = mul-add each (half + half) 1 in
    let even : (each + each) * half ≡ each * (half + half) = halved_even each half (half + half) refl in
    rw e (omega (arith, one, even))

module _ (seed draws number times plus left more other : ℕ) (h : AreLeft seed draws number times plus left) (is_more : more ≡ (plus * times + plus) % 2 ^ 64) (is_other : other ≡ (times * times) % 2 ^ 64) where
  pub even_leap : left % 2 ≡ 0 → AreLeft seed draws number other more (left / 2)
  even_leap e = record {
    done = h.done;
    each = h.each + h.each;
    leap = twice h.each times plus more other h.leap is_more is_other;
    here = h.here;
    all = omega (arith, h.all, halved_even h.each (left / 2) left (omega (arith, e)));
  }

  pub odd_leap : (next : ℕ) → left % 2 ≡ 1 → next ≡ (number * times + plus) % 2 ^ 64 → AreLeft seed draws next other more (left / 2)
  odd_leap next e is_next = record {
    done = h.each + h.done;
    each = h.each + h.each;
    leap = twice h.each times plus more other h.leap is_more is_other;
    here = is_next ∙ h.leap number ∙ ap (λ (n : ℕ). behind_draws n h.each) h.here ∙ behind_both seed h.done h.each;
    all = omega (arith, h.all, halved_odd h.each (left / 2) left (omega (arith, e)));
  }
