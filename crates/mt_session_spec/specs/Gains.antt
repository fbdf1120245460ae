-- What the objects outside gained by calls that failed.
use Rattle.std.specs.Prelude.{ℕ, List, [], ◌++◌}

-- the names at which calls of the shelf failed, and the patterns that the shop refused
pub record Gained : Type 0 where
  pub failed : List (List ℕ)
  pub refused : List (List ℕ)

-- no call failed
abbrev pub none_gained : Gained
none_gained = record { failed = []; refused = [] }

-- the first, and then the second
abbrev pub gained_then : Gained → Gained → Gained
gained_then here later = record { failed = here.failed ++ later.failed; refused = here.refused ++ later.refused }
