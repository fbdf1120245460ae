-- Elias gamma and delta (P. Elias, Universal codeword sets and representations of the integers, 1975).
-- A bit is `true` where it is 1, and bits stand in the order in which they are written.
use Rattle.std.specs.Prelude.{ℕ, zero, suc, ◌≡◌, ◌≢◌, ◌+◌, ◌/◌, ◌%◌, ◌^◌, ◌<◌, ◌≤◌, ◌==◌, nat_lt, if◌then◌else◌, Bool, false, List, [], ◌∷◌, ◌++◌, replicate}

-- the k lowest binary digits of n, the highest of them first
unfoldable pub digits : ℕ → ℕ → List Bool
digits zero n = []
digits (suc k) n = (n / 2 ^ k % 2 == 1) ∷ digits k n

-- how often n can be halved, at most `most` times, before it is below 2
unfoldable pub halvings : ℕ → ℕ → ℕ
halvings zero n = 0
halvings (suc most) n = if nat_lt n 2 then 0 else halvings most (n / 2) + 1

-- the binary logarithm of n, rounded down: one less than the number of its binary digits
unfoldable pub log2 : ℕ → ℕ
unfolding halvings
log2 n = halvings n n

-- Elias gamma of n, which is at least 1: a zero for each digit after the first, and then the digits
unfoldable pub gamma : ℕ → List Bool
unfolding log2 digits
gamma n = replicate (log2 n) false ++ digits (log2 n + 1) n

-- Elias delta of n, which is at least 1: gamma of the number of its digits, and then the digits after the first
unfoldable pub delta : ℕ → List Bool
unfolding gamma log2 digits
delta n = gamma (log2 n + 1) ++ digits (log2 n) n

-- the bits of bytes, from the most significant of each
abbrev pub bits : List ℕ → List Bool
bits [] = []
bits (b ∷ bs) = digits 8 b ++ bits bs

-- What a reader has before it: the bits that are left, and the place of the first of them, counted from 0.
pub record Unread : Type 0 where
  pub left : List Bool
  pub place : ℕ

-- The code here begins with six zeros, or its gamma number is there whole and passes 32: no number below 2^32 has such a code.
pub data IsTooLarge (left : List Bool) : Type 0 where
  SixZeros : (rest : List Bool) → left ≡ replicate 6 false ++ rest → IsTooLarge left
  Passes32 : (n : ℕ) (rest : List Bool) → 32 < n → left ≡ gamma n ++ rest → IsTooLarge left

-- The bits end inside a code, which is not too large as far as it is there.
pub record IsCut (left : List Bool) : Type 0 where
  pub number : ℕ
  pub missing : List Bool
  pub positive : 1 ≤ number
  pub inside : missing ≢ []
  pub code : left ++ missing ≡ delta number
  pub no_larger : IsTooLarge left → ⊥
