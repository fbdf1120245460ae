-- A script is read in one way.
use Rattle.std.specs.Prelude.{◌≡◌, ℕ, Bool, List}
use Rattle.mt_script_spec.specs.Commands.{Header, IsHeader}
use Rattle.mt_script_spec.specs.Script.{Item, Items}

-- a line has at most one header
abbrev pub OneHeader : Type 0
OneHeader = (line : List ℕ) (a b : Header) → IsHeader line a → IsHeader line b → a ≡ b

-- a script has at most one reading
abbrev pub OneReading : Type 0
OneReading = (ended : Bool) (bytes : List ℕ) (xs ys : List Item) (r s : List ℕ) → Items ended bytes xs r → Items ended bytes ys s → (xs ≡ ys) × (r ≡ s)
