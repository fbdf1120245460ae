-- Rooms of expressions.
use Rattle.std.specs.Prelude.{ℕ, ◌≡◌, ◌≢◌, ◌+◌, List, length, slice_index_or}

-- one room is so much smaller, and the others are as they were
pub record LowersOne (number by : ℕ) (old new : List ℕ) : Type 0 where
  pub count : length new ≡ length old
  pub lower : slice_index_or old number 0 ≡ by + slice_index_or new number 0
  pub others : (room : ℕ) → room ≢ number → slice_index_or new room 0 ≡ slice_index_or old room 0
