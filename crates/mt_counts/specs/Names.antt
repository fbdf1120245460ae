-- Texts by their numbers.
use Rattle.std.specs.Prelude.{ℕ, ◌≡◌, List, ◌++◌, length, slice_get, slice_index, Some}

-- no text has two numbers
abbrev pub AreDistinct : List (List ℕ) → Type 0
AreDistinct values = (value : List ℕ) (i j : ℕ) → slice_get values i ≡ Some value → slice_get values j ≡ Some value → i ≡ j

-- some texts were added behind the others
pub record Begins (old new : List (List ℕ)) : Type 0 where
  pub more : List (List ℕ)
  pub are : new ≡ old ++ more

-- the number of each text among others
pub record AreRenumbered (old new : List (List ℕ)) (numbers : List ℕ) : Type 0 where
  pub count : length numbers ≡ length old
  pub each : (k : ℕ) (value : List ℕ) → slice_get old k ≡ Some value → slice_get new (slice_index numbers k) ≡ Some value
