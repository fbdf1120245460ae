-- Numbers that stand for values.
use Rattle.std.specs.Prelude.{ℕ, ◌<◌, ◌≤◌, List, [], length, map, slice_index_or}
use Rattle.std.specs.List.{All, Contains}

-- the values for which numbers stand
abbrev pub stands_for : List (List ℕ) → List ℕ → List (List ℕ)
stands_for seen numbers = map (λ n. slice_index_or seen n []) numbers

-- each number stands for a value, and each value has a number that stands for it
pub record IsNumbered (seen : List (List ℕ)) (numbers : List ℕ) : Type 0 where
  pub within : All (λ n. n < length seen) numbers
  pub only : All (Contains (stands_for seen numbers)) seen
  pub few : length seen ≤ length numbers
