-- Lists that hold the same items.
use Rattle.std.specs.Prelude.{List}
use Rattle.std.specs.List.{Contains}

-- each item of one list stands in the other, however often
pub record HaveSameItems {X : Type 0} (xs ys : List X) : Type 0 where
  pub to : (x : X) → Contains xs x → Contains ys x
  pub from : (x : X) → Contains ys x → Contains xs x
