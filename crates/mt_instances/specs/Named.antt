-- Instances under names that have numbers.
use Rattle.std.specs.Prelude.{ℕ, List}
use Rattle.mt_count_spec.specs.Instances.{Instance}

-- the names by their numbers, and the instances of a text that are known so far
pub record Named : Type 0 where
  pub names : List (List ℕ)
  pub given : List Instance
