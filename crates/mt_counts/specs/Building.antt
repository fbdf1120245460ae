-- What is noted of a text, with the names and words that have numbers.
use Rattle.std.specs.Prelude.{ℕ, List}
use Rattle.mt_counts.specs.Counted.{Counted}

-- the names and the words by their numbers, and what is counted
pub record Building : Type 0 where
  pub names : List (List ℕ)
  pub words : List (List ℕ)
  pub counted : Counted
