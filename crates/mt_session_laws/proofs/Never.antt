-- What cannot be: that neither of two holds, and that numbers are without a least.
use Rattle.std.proofs.Common.{ℕ, zero, suc, ◌<◌, ◌≤◌, ◌⊎◌, inl, inr, arith}
use Rattle.std.proofs.lemmas.Bool.{cases_lt}

pub either : (P : Type 0) → (P ⊎ (P → ⊥) → ⊥) → ⊥
either P k = k (inr (λ p. k (inl p)))

-- the least number of which something holds
pub record Least (P : ℕ → Type 0) : Type 0 where
  pub number : ℕ
  pub here : P number
  pub first : (other : ℕ) → P other → number ≤ other

below : (P : ℕ → Type 0) (n other : ℕ) → (((j : ℕ) × (j < n) × P j) → ⊥) → P other → (other < n) ⊎ (n ≤ other) → n ≤ other
below P n other none p (inl low) = absurd (none (other, low, p))
below P n other none p (inr high) = high

least_within : (P : ℕ → Type 0) (fuel n : ℕ) → n ≤ fuel → P n → (Least P → ⊥) → ⊥
least_within P zero n low p k = k (record { number = n; here = p; first = λ other q. omega arith })
least_within P (suc fuel) n low p k = either ((j : ℕ) × (j < n) × P j) (λ d. elim d [
  | inl found ↦ least_within P fuel found.0 (let h : found.0 < n = found.1 in omega arith) found.2 k
  | inr none ↦ k (record { number = n; here = p; first = λ other q. below P n other none q (cases_lt other n) })
])

pub some_least : (P : ℕ → Type 0) (n : ℕ) → P n → (Least P → ⊥) → ⊥
some_least P n p k = least_within P n n (omega arith) p k
