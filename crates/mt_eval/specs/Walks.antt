-- Walks over positions, of which the next one is at hand, and the steps that they take.
use Rattle.std.specs.Prelude.{ℕ, ◌+◌, ◌*◌, ◌<◌, ◌≤◌, List, [], ◌∷◌, Option, None, Some, length}
use Rattle.std.specs.List.{Contains}

-- what is left: the position at hand, and the others
abbrev pub left_of : Option ℕ → (rest : List ℕ) → List ℕ
left_of None rest = []
left_of (Some place) rest = place ∷ rest

-- each number is below all that follow it
abbrev pub Ascend : List ℕ → Type 0
Ascend [] = Unit {0}
Ascend (place ∷ places) = ((later : ℕ) → Contains places later → place < later) × Ascend places

-- of the positions those from a bound on are left, and no others
pub record IsLeft (positions : List ℕ) (bound : ℕ) (left : List ℕ) : Type 0 where
  pub ascending : Ascend left
  pub low : (place : ℕ) → Contains left place → bound ≤ place
  pub only : (place : ℕ) → Contains left place → Contains positions place
  pub each : (place : ℕ) → bound ≤ place → Contains positions place → Contains left place

-- the steps that so many positions take, where each takes one, and then so many looks
abbrev pub due_of : (looks many : ℕ) → ℕ
due_of looks many = (1 + looks) * many

-- those that are still to be taken: the position at hand has its looks left
abbrev pub due : (looks : ℕ) → Option ℕ → (rest : List ℕ) → ℕ
due looks None rest = 0
due looks (Some place) rest = looks + due_of looks (length rest)
