-- Bits that mark bytes, and the first line of a text.
use Rattle.std.specs.Prelude.{ℕ, ◌≡◌, ◌<◌, ◌≤◌, List, ◌∷◌, length, slice_index, Option, None, Some}
use Rattle.std.specs.Int.{bit_at}
use Rattle.std.specs.Str.Lines.{lines}
use Rattle.mt_file_spec.specs.VerticalLines.{columns}
use Rattle.mt_vertical.specs.Columns.{column_in}
use Rattle.mt_vertical.specs.Lines.{IsToken}

-- a bit is set for each of the first 32 bytes that is this one
pub record AreMarks (byte : ℕ) (bytes : List ℕ) (marks : ℕ) : Type 0 where
  pub set : (k : ℕ) → k < 32 → k < length bytes → slice_index bytes k ≡ byte → bit_at marks k ≡ 1
  pub only : (k : ℕ) → k < 32 → k < length bytes → bit_at marks k ≡ 1 → slice_index bytes k ≡ byte

-- all tabs are marked
pub record AreTabs (bytes : List ℕ) (tabs : ℕ) : Type 0 where
  pub few : length bytes ≤ 32
  pub marks : AreMarks 9 bytes tabs

-- the text begins with these bytes
pub record BeginsWith (text front : List ℕ) : Type 0 where
  pub within : length front ≤ length text
  pub same : (k : ℕ) → k < length front → slice_index front k ≡ slice_index text k

-- the rest follows the first column and its tab, and its tabs are marked
pub record IsBehindColumn (text rest : List ℕ) (tabs : ℕ) : Type 0 where
  pub first : List ℕ
  pub is : columns text ≡ first ∷ columns rest
  pub marked : AreTabs rest tabs

-- the first column
pub record IsFirstColumn (text first : List ℕ) : Type 0 where
  pub others : List (List ℕ)
  pub is : columns text ≡ first ∷ others

-- the value that the line has in a column, if it is a token
abbrev pub IsValue : ℕ → List ℕ → Option (List ℕ) → Type 0
IsValue column line None = ¬ IsToken line
IsValue column line (Some value) = IsToken line × (value ≡ column_in column line)

-- the value that the first line has in a column, and what follows the line
pub record IsFirstValue (column : ℕ) (text : List ℕ) (value : Option (List ℕ)) (rest : List ℕ) : Type 0 where
  pub line : List ℕ
  pub first : lines text ≡ line ∷ lines rest
  pub less : length rest < length text
  pub told : IsValue column line value
