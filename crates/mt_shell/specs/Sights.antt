-- What holds of the files of a shelf that may not tell them.
use Rattle.std.specs.Prelude.{◌≡◌, Option, Some}

-- It holds of some value, and of the one that is told where one is.
pub record Sees {X : Type 0} (told : Option X) (P : X → Type 0) : Type 0 where
  pub value : X
  pub agrees : (all : X) → told ≡ Some all → value ≡ all
  pub holds : P value
