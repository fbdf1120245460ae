-- Places that are chained by the class of what stands there, from the last of a class to its first.
use Rattle.std.specs.Prelude.{ℕ, ◌≡◌, ◌-◌, ◌<◌, ◌≤◌, List, length, map, slice_index}

-- of the numbers below `number` that have a property, the last one is right before `below`, and there is none where `below` is 0
pub record IsLast (P : ℕ → Type 0) (number below : ℕ) : Type 0 where
  pub bound : below ≤ number
  pub here : 0 < below → P (below - 1)
  pub none : (k : ℕ) → below ≤ k → k < number → P k → ⊥

-- what stands at a place has this class
abbrev pub HasClass : List ℕ → ℕ → ℕ → Type 0
HasClass classes class k = slice_index classes k ≡ class

-- the class of a key is its first number
abbrev pub classes : List ((ℕ × ℕ) × ℕ) → List ℕ
classes entries = map (λ e. e.0.0) entries

-- every place is in the chain of its class, from the class's end on
pub record AreChained (classes belows ends : List ℕ) : Type 0 where
  pub each : length belows ≡ length classes
  pub ends_are : (class : ℕ) → IsLast (HasClass classes class) (length classes) (slice_index ends class)
  pub belows_are : (k : ℕ) → k < length classes → IsLast (HasClass classes (slice_index classes k)) k (slice_index belows k)
