-- How many of some numbers have a property, and how many things of a kind there are.
use Rattle.std.specs.Prelude.{ℕ, zero, suc, ◌≡◌, ◌≢◌, ◌+◌, ◌<◌, ◌⊎◌, List, [], ◌∷◌, length, if◌then◌else◌, Bool, Decides}

-- ## Numbers

-- how many numbers are marked, of so many from the first one on
unfoldable pub marked_from : (marks : ℕ → Bool) → (first many : ℕ) → ℕ
marked_from marks first zero = 0
marked_from marks first (suc more) = (if marks first then 1 else 0) + marked_from marks (first + 1) more

-- so many of the numbers below a limit have a property: marks tell of which
pub record CountsBelow (limit : ℕ) (P : ℕ → Type 0) (count : ℕ) : Type 0 where
  pub marks : ℕ → Bool
  pub tell : (number : ℕ) → number < limit → Decides (marks number) (P number)
  pub counted : count ≡ marked_from marks 0 limit

-- ## Things

-- an item is one of a list
abbrev pub IsAmong : {X : Type 0} → X → List X → Type 0
IsAmong x [] = ⊥
IsAmong x (y ∷ ys) = (x ≡ y) ⊎ IsAmong x ys

-- no item stands there twice
abbrev pub Differ : {X : Type 0} → List X → Type 0
Differ [] = Unit {0}
Differ {X} (x ∷ xs) = ((z : X) → IsAmong z xs → z ≢ x) × Differ xs

-- there are so many things of a kind
pub record HasCount {X : Type 0} (P : X → Type 0) (count : ℕ) : Type 0 where
  pub all : List X
  pub once : Differ all
  pub only : (x : X) → IsAmong x all → P x
  pub each : (x : X) → P x → IsAmong x all
  pub counted : count ≡ length all

-- there are more of them than so many
pub record HasMore {X : Type 0} (P : X → Type 0) (room : ℕ) : Type 0 where
  pub some : List X
  pub once : Differ some
  pub only : (x : X) → IsAmong x some → P x
  pub more : room < length some
