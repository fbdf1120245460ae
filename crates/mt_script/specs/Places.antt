-- Where lines begin and end in bytes.
use Rattle.std.specs.Prelude.{ℕ, ◌≡◌, ◌≢◌, ◌<◌, ◌≤◌, List, length, slice_index}

-- no line feed from one place up to another
abbrev pub NoFeed : List ℕ → ℕ → ℕ → Type 0
NoFeed bytes from to = (k : ℕ) → from ≤ k → k < to → slice_index bytes k ≢ 10

-- no line feed from the place where the line begins up to the one where looking for it goes on
pub record Looked (bytes : List ℕ) (line scanned : ℕ) : Type 0 where
  pub order : line ≤ scanned
  pub within : scanned ≤ length bytes
  pub none : NoFeed bytes line scanned

-- the line that begins at one place has its line feed at the other
pub record LineAt (bytes : List ℕ) (line end : ℕ) : Type 0 where
  pub order : line ≤ end
  pub within : end < length bytes
  pub none : NoFeed bytes line end
  pub feed : slice_index bytes end ≡ 10
