-- Whether a test holds is decided.
use Rattle.std.proofs.Common.{◌≡◌, ℕ, ◌<◌, ◌≤◌, ◌⊎◌, inl, inr, Bool, true, false, List, refl, is_some, nat_eq, arith}
use Rattle.std.specs.Cmp.Lexicographic.{pointwise, bytes_decides}
use Rattle.std.proofs.lemmas.Bool.{cases_lt}
use Rattle.mt_text_spec.specs.Queries.{Test, Any, Pattern, Literal, Not, Both, Either}
use Rattle.mt_pattern_spec.specs.Patterns.{Accepts, finds, wrapped, reading}
use Rattle.mt_match_spec.specs.Tests.{Unless, Holds}

abbrev pub Decision : Type 0 → Type 0
Decision P = P ⊎ (P → ⊥)

pub decided : (b : Bool) → Decision (b ≡ true)
decided true = inl refl
decided false = inr (λ e. cc)

pub both : {P Q : Type 0} → Decision P → Decision Q → Decision (P × Q)
both (inl p) (inl q) = inl (p, q)
both (inl p) (inr n) = inr (λ h. n h.1)
both (inr n) d = inr (λ h. n h.0)

pub all_three : {P Q R : Type 0} → Decision P → Decision Q → Decision R → Decision (P × Q × R)
all_three (inl p) (inl q) (inl r) = inl (p, q, r)
all_three (inl p) (inl q) (inr n) = inr (λ h. n h.2)
all_three (inl p) (inr n) d = inr (λ h. n h.1)
all_three (inr n) d e = inr (λ h. n h.0)

either : {P Q : Type 0} → Decision P → Decision Q → Decision (P ⊎ Q)
either (inl p) d = inl (inl p)
either (inr n) (inl q) = inl (inr q)
either (inr n) (inr m) = inr (λ h. elim h [ inl p ↦ n p | inr q ↦ m q ])

pub contrary : {P : Type 0} → Decision P → Decision (P → ⊥)
contrary (inl p) = inr (λ n. n p)
contrary (inr n) = inl n

pub unless : {P : Type 0} (negated : Bool) → Decision P → Decision (Unless negated P)
unless false d = d
unless true d = contrary d

pub alike : {P Q : Type 0} → (P → Q) → (Q → P) → Decision P → Decision Q
alike to from (inl p) = inl (to p)
alike to from (inr n) = inr (λ q. n (from q))

pub below : (m n : ℕ) → Decision (m < n)
below m n = elim (cases_lt m n) [ inl l ↦ inl l | inr l ↦ inr (λ k. absurd (omega (arith, l, k))) ]

pub at_most : (m n : ℕ) → Decision (m ≤ n)
at_most m n = elim (cases_lt n m) [ inl l ↦ inr (λ k. absurd (omega (arith, l, k))) | inr l ↦ inl l ]

pub equal_values : (a b : List ℕ) → Decision (a ≡ b)
equal_values a b = alike (bytes_decides a b).0 (bytes_decides a b).1 (decided (pointwise nat_eq a b))

accepts : (pattern value : List ℕ) → Decision (Accepts pattern value)
accepts pattern value =
    alike (λ h. record { alone = h.0; whole = h.1; found = h.2 }) (λ a. (a.alone, a.whole, a.found))
    (all_three (decided (is_some (reading pattern))) (decided (is_some (reading (wrapped pattern)))) (decided (finds (wrapped pattern) value)))

pub holds : (test : Test) (value : ℕ → List ℕ) → Decision (Holds test value)
holds Any value = inl tt
holds (Pattern attr text negated) value = unless negated (accepts text (value attr))
holds (Literal attr text negated) value = unless negated (equal_values (value attr) text)
holds (Not inner) value = contrary (holds inner value)
holds (Both left right) value = both (holds left value) (holds right value)
holds (Either left right) value = either (holds left value) (holds right value)
