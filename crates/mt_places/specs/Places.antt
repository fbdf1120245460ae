-- Sets of places in a text: which places are in a set, and what it means that it has just those of a kind.
use Rattle.std.specs.Prelude.{ℕ, ◌≡◌, ◌+◌, ◌*◌, ◌/◌, ◌%◌, ◌<◌, ◌≤◌, List, length, slice_index}
use Rattle.std.specs.Int.{bit_at}

-- the bit of a place in words of 64 bits, the lowest bit first; past their end it is 0
unfoldable pub bit : List ℕ → ℕ → ℕ
bit words place = bit_at (slice_index words (place / 64)) (place % 64)

-- the place is in the set
abbrev pub In : List ℕ → (place : ℕ) → Type 0
In set place = bit set place ≡ 1

-- how many places the set has room for: those below this number
abbrev pub room : List ℕ → ℕ
room set = 64 * length set

-- the set has just the places of which P holds, as far as there is room
pub record HasJust (P : ℕ → Type 0) (set : List ℕ) : Type 0 where
  pub sound : (place : ℕ) → In set place → P place
  pub complete : (place : ℕ) → P place → place < room set → In set place

-- the 64 bits of a word say of which of the places from 64 * at on P holds
pub record WordIs (P : ℕ → Type 0) (at word : ℕ) : Type 0 where
  pub sound : (j : ℕ) → j < 64 → bit_at word j ≡ 1 → P (64 * at + j)
  pub complete : (j : ℕ) → j < 64 → P (64 * at + j) → bit_at word j ≡ 1

-- `found` is the first place of the set from `place` on
pub record FirstFrom (set : List ℕ) (place found : ℕ) : Type 0 where
  pub from : place ≤ found
  pub is_in : In set found
  pub none_before : (k : ℕ) → place ≤ k → k < found → ¬ In set k

-- a place of the set lies so many places below this one
pub record IsAbove (set : List ℕ) (by place : ℕ) : Type 0 where
  pub below : ℕ
  pub is_in : In set below
  pub moved : place ≡ below + by
