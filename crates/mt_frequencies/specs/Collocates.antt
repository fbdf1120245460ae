-- What is listed of spans and tokens that have a value.
use Rattle.std.specs.Prelude.{ℕ, ℤ, ◌+◌, ◌*◌, ◌<◌, List}
use Rattle.mt_sketch_spec.specs.Score.{IsScore}
use Rattle.mt_report_spec.specs.Counts.{Collocate, Frequency}

-- each fraction above 0 is given its score
abbrev pub AreScores : (ℕ → ℕ → ℤ) → Type 0
AreScores scores = (two_f sum : ℕ) → 0 < two_f → IsScore two_f sum (scores two_f sum)

-- A value that so many of the spans have near them, with how many tokens have it, and its score.
abbrev pub collocate_of : (scores : ℕ → ℕ → ℤ) → (spans : ℕ) → (tokens : List ℕ → ℕ) → Frequency → Collocate
collocate_of scores spans tokens one = record { value = one.value; both = one.spans; tokens = tokens one.value; score = scores (2 * one.spans) (spans + tokens one.value) }

-- fewer spans have a value near them than there are spans and tokens with it, and one at least
pub record HasPlace (spans : ℕ) (tokens : List ℕ → ℕ) (one : Frequency) : Type 0 where
  pub some : 0 < one.spans
  pub fewer : one.spans < spans + tokens one.value
