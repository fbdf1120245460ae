-- What is answered. How an answer came is told by its kind, whatever its bytes are.
use Rattle.std.specs.Prelude.{ℕ, List, [], ◌∷◌}
use Rattle.std.specs.List.{flat_map}
use Rattle.mt_text_spec.specs.Lines.{closed}

pub data Answer : Type 0 where
  -- declined, kept from a file or without memory: the command is refused as a whole, in one line
  Refused : (line : List ℕ) → Answer
  -- accepted, in these lines
  Lines : (lines : List (List ℕ)) → Answer
  -- accepted, in this line, and the run ends with it
  Last : (line : List ℕ) → Answer

-- the lines of an answer, without their line feeds
abbrev pub lines_of : Answer → List (List ℕ)
lines_of (Refused line) = line ∷ []
lines_of (Lines lines) = lines
lines_of (Last line) = line ∷ []

-- the lines, each with its line feed
abbrev pub bytes_of : Answer → List ℕ
bytes_of answer = flat_map closed (lines_of answer)

-- answers one after another
abbrev pub output_of : List Answer → List ℕ
output_of answers = flat_map bytes_of answers
