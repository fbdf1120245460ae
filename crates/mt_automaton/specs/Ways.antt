-- Where a relation leads to from a set of places, on from begins to ends and back from ends to begins.
use Rattle.std.specs.Prelude.{ℕ, ◌≡◌, ◌+◌, ◌<◌, ◌≤◌, ◌⊎◌, List, length}
use Rattle.mt_places.specs.Places.{In, room, HasJust}
use Rattle.mt_automaton.specs.declared.view.Way.{Way}
use Rattle.mt_automaton.specs.declared.view.Way.TheVariants.{On, Back}

-- `to` is what R leads to from the set, as far as there is room
pub record Image (R : ℕ → ℕ → Type 0) (from to : List ℕ) : Type 0 where
  pub width : length to ≡ length from
  pub sound : (f : ℕ) → In to f → (b : ℕ) × In from b × R b f
  pub complete : (b f : ℕ) → In from b → R b f → f < room from → In to f

-- a relation as it is followed
abbrev pub Along : Way → (ℕ → ℕ → Type 0) → ℕ → ℕ → Type 0
Along On R b f = R b f
Along Back R b f = R f b

-- so many places behind, or up to so many
abbrev pub Later : (by b f : ℕ) → Type 0
Later by b f = f ≡ b + by

abbrev pub UpTo : (by b f : ℕ) → Type 0
UpTo by b f = (b ≤ f) × (f ≤ b + by)

-- where one stands before an instance is followed, and after
abbrev pub near : Way → (begin end : ℕ) → ℕ
near On begin end = begin
near Back begin end = end

abbrev pub far : Way → (begin end : ℕ) → ℕ
far On begin end = end
far Back begin end = begin

-- what instances lead to from the set was added
pub record Adds (way : Way) (I : ℕ → ℕ → Type 0) (set old new : List ℕ) : Type 0 where
  pub width : length new ≡ length old
  pub sound : (k : ℕ) → In new k → In old k ⊎ ((b : ℕ) × ((f : ℕ) × (I b f × In set (near way b f) × (k ≡ far way b f))))
  pub kept : (k : ℕ) → In old k → In new k
  pub complete : (b f : ℕ) → I b f → In set (near way b f) → In new (far way b f)

-- instances that begin at a place, or below one
abbrev pub From : (ℕ → ℕ → Type 0) → ℕ → ℕ → ℕ → Type 0
From I at b f = (b ≡ at) × I b f

abbrev pub Below : (ℕ → ℕ → Type 0) → ℕ → ℕ → ℕ → Type 0
Below I at b f = (b < at) × I b f

-- among the begins is each instance that is met from the set, and nothing behind the text
pub record AreBegins (way : Way) (I : ℕ → ℕ → Type 0) (tokens : ℕ) (set begins : List ℕ) : Type 0 where
  pub all : (b f : ℕ) → I b f → In set (near way b f) → In begins b
  pub inside : (b : ℕ) → In begins b → b < tokens + 1

-- a turn was counted: of what it leads to, what is new was kept, and was added to all that is counted
pub record Counts (turn all kept more : List ℕ) : Type 0 where
  pub kept_size : length kept ≡ length turn
  pub all_size : length more ≡ length all
  pub kept_are : HasJust (λ place. In turn place × ¬ In all place) kept
  pub more_are : HasJust (λ place. In all place ⊎ In kept place) more
