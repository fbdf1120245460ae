-- What contracts see of a script reader.
use Rattle.std.specs.Prelude.{ℕ, Bool, List}

-- the bytes that were fed and not given out, and whether the input has ended
pub record Waiting : Type 0 where
  pub bytes : List ℕ
  pub ended : Bool
