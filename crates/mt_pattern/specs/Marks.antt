-- A bit for each number, in words of 64 bits. The lowest bit of the first word is that of 0.
use Rattle.std.specs.Prelude.{ℕ, zero, suc, ◌≡◌, ◌≢◌, ◌+◌, ◌*◌, ◌/◌, ◌%◌, ◌≤◌, ◌==◌, Bool, false, true, List, [], ◌∷◌, length, slice_index, slice_get, get_or, Some, count_by, ◌<◌}
use Rattle.std.specs.Int.{bit_at}

-- whether the bit of a number is set
abbrev pub is_set : List ℕ → ℕ → Bool
is_set words id = bit_at (slice_index words (id / 64)) (id % 64) == 1

-- the bits of so many numbers, from this one on
abbrev pub marks_from : List ℕ → ℕ → ℕ → List Bool
marks_from words id zero = []
marks_from words id (suc count) = is_set words id ∷ marks_from words (id + 1) count

-- the words have a bit for each of so many numbers, and no bit is set of another
pub record AreMarks (words : List ℕ) (count : ℕ) : Type 0 where
  pub room : count ≤ 64 * length words
  pub clear : (id : ℕ) → count ≤ id → is_set words id ≡ false

-- the least number in a set that is this one or a later one
pub record IsNext (marks : List Bool) (from found : ℕ) : Type 0 where
  pub later : from ≤ found
  pub marked : slice_get marks found ≡ Some true
  pub least : (id : ℕ) → from ≤ id → slice_get marks id ≡ Some true → found ≤ id

-- neither this number nor a later one is in a set
abbrev pub NoneFrom : List Bool → ℕ → Type 0
NoneFrom marks from = (id : ℕ) → from ≤ id → slice_get marks id ≢ Some true

-- how many numbers are in a set
abbrev pub size_of : List Bool → ℕ
size_of marks = count_by (λ mark. mark) marks

-- the first word from a place on that is not 0
pub record IsNextWord (words : List ℕ) (from at : ℕ) : Type 0 where
  pub later : from ≤ at
  pub within : at < length words
  pub some : 0 < get_or words at 0
  pub none : (place : ℕ) → from ≤ place → place < at → get_or words place 0 ≡ 0
