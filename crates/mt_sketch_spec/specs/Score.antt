-- The score of two words that occur together: logDice, 14 + log2(two_f / sum), in sixteenths.
use Rattle.std.specs.Prelude.{◌≡◌, ℕ, zero, suc, ℤ, pos, negsuc, ◌+◌, ◌-◌, ◌*◌, ◌/◌, ◌%◌, ◌^◌, ◌<◌, ◌≤◌, ◌+ℤ◌, ◌≤ℤ◌, List, [], ◌∷◌, ◌++◌, decimal}

-- 10^9 * 2^(sixteenths / 16), rounded up: the least whole number whose sixteenth power is not below (10^9)^16 * 2^sixteenths
pub record IsConstant (sixteenths constant : ℕ) : Type 0 where
  pub enough : (10 ^ 9) ^ 16 * 2 ^ sixteenths ≤ constant ^ 16
  pub least : (other : ℕ) → (10 ^ 9) ^ 16 * 2 ^ sixteenths ≤ other ^ 16 → constant ≤ other

-- The fraction two_f / sum comes up to the score 16 * (14 - doublings) + sixteenths:
-- doubled so often, it is not below 2^(sixteenths / 16), as its constant has it.
pub record Reaches (two_f sum : ℕ) (score : ℤ) : Type 0 where
  pub doublings : ℕ
  pub sixteenths : ℕ
  pub constant : ℕ
  pub is : score +ℤ pos (16 * doublings) ≡ pos (16 * 14 + sixteenths)
  pub within : sixteenths < 16
  pub rounded : IsConstant sixteenths constant
  pub enough : sum * constant ≤ two_f * 10 ^ 9 * 2 ^ doublings

-- the score of a fraction is the greatest that it reaches
pub record IsScore (two_f sum : ℕ) (score : ℤ) : Type 0 where
  pub reached : Reaches two_f sum score
  pub greatest : (other : ℤ) → Reaches two_f sum other → other ≤ℤ score

-- the last digits of a number, so many, with zeros in front where it has fewer
abbrev pub last_digits : ℕ → ℕ → List ℕ
last_digits zero n = []
last_digits (suc count) n = last_digits count (n / 10) ++ (48 + n % 10) ∷ []

-- so many sixteenths, of which each is 625 ten-thousandths: the whole part, a point, four decimals
abbrev pub unsigned_text : ℕ → List ℕ
unsigned_text n = decimal (n / 16) ++ 46 ∷ last_digits 4 (n % 16 * 625)

-- the same with a sign before what is negative
abbrev pub sixteenths_text : ℤ → List ℕ
sixteenths_text (pos n) = unsigned_text n
sixteenths_text (negsuc n) = 45 ∷ unsigned_text (n + 1)

-- a fraction comes up to its score, and not a sixteenth higher
abbrev pub ScoreIsWithinASixteenth : Type 0
ScoreIsWithinASixteenth = (two_f sum : ℕ) (score : ℤ) → IsScore two_f sum score → Reaches two_f sum score × ¬ Reaches two_f sum (score +ℤ pos 1)

-- a fraction has one score at most
abbrev pub ScoreIsUnique : Type 0
ScoreIsUnique = (two_f sum : ℕ) (score other : ℤ) → IsScore two_f sum score → IsScore two_f sum other → score ≡ other

-- a fraction that is not less has a score that is not less
abbrev pub ScoreIsMonotone : Type 0
ScoreIsMonotone = (two_f sum larger_two_f larger_sum : ℕ) (score larger : ℤ) →
    0 < sum → two_f * larger_sum ≤ larger_two_f * sum → IsScore two_f sum score → IsScore larger_two_f larger_sum larger → score ≤ℤ larger

-- score / 16 ≤ 14 + log2(two_f / sum), which is 2^score * sum^16 ≤ 2^224 * two_f^16
abbrev pub IsAtMostLog : ℕ → ℕ → ℤ → Type 0
IsAtMostLog two_f sum (pos n) = 2 ^ n * sum ^ 16 ≤ 2 ^ 224 * two_f ^ 16
IsAtMostLog two_f sum (negsuc n) = sum ^ 16 ≤ 2 ^ (225 + n) * two_f ^ 16

-- The score is logDice rounded down: it is not above logDice, and a sixteenth more is above it,
-- at least for a fraction that is less by a billionth part, since the constants are rounded.
abbrev pub ScoreIsLogDice : Type 0
ScoreIsLogDice = (two_f sum : ℕ) (score : ℤ) → two_f < 2 * sum → IsScore two_f sum score →
    IsAtMostLog two_f sum score × ¬ IsAtMostLog (two_f * (10 ^ 9 - 1)) (sum * 10 ^ 9) (score +ℤ pos 1)
