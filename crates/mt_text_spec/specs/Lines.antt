-- Lines, of which every file and script of the engine is made. The lines of a file are std's `lines`: the bytes between line feeds,
-- each without one carriage return directly before its line feed. What follows the last line feed is a line where it is not empty, and keeps a carriage return.
use Rattle.std.specs.Prelude.{ℕ, ◌≡◌, ◌≢◌, List, [], ◌∷◌, ◌++◌, length}
use Rattle.std.specs.List.{flat_map, All}

-- no line feed is among these bytes
abbrev pub IsLine : List ℕ → Type 0
IsLine bytes = All (λ b. b ≢ 10) bytes

-- a line and its line feed
abbrev pub closed : List ℕ → List ℕ
closed line = line ++ 10 ∷ []

-- the bytes are so many lines, each followed by a line feed
pub record Block (number : ℕ) (bytes : List ℕ) : Type 0 where
  pub all : List (List ℕ)
  pub count : length all ≡ number
  pub each : All IsLine all
  pub are : bytes ≡ flat_map closed all
