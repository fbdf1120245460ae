-- How far matches lead.
use Rattle.std.specs.Prelude.{ℕ, ◌+◌, ◌≤◌}

-- what begins at a place or before, and ends in a text of so many tokens, ends at `far` or before; `far` lies in the text, at the place or behind it
pub record EndsBy (R : (begin end : ℕ) → Type 0) (tokens at far : ℕ) : Type 0 where
  pub on : at ≤ far
  pub within : far ≤ tokens
  pub all : (begin end : ℕ) → begin ≤ at → end ≤ tokens → R begin end → end ≤ far

-- what begins and ends in a text of so many tokens has at most `most` of them
pub record HasAtMost (R : (begin end : ℕ) → Type 0) (tokens most : ℕ) : Type 0 where
  pub all : (begin end : ℕ) → begin ≤ tokens → end ≤ tokens → R begin end → end ≤ begin + most
