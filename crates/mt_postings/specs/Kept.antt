-- What is kept of a long list: its code, and an entry for each 128th position.
use Rattle.std.specs.Prelude.{ℕ, zero, suc, ◌≡◌, ◌+◌, ◌-◌, ◌*◌, ◌/◌, ◌<◌, ◌≤◌, ◌⊎◌, if◌then◌else◌, Bool, true, false, List, [], ◌∷◌, ◌++◌, length, take, drop, slice_index, slice_index_or}
use Rattle.mt_store_spec.specs.Codes.{delta, Unread}
use Rattle.mt_store_spec.specs.Positions.{ArePositions, next_least, codes, IsCode}
use Rattle.mt_postings.specs.declared.coded.Entry.{Entry}

-- whether bits begin with others
abbrev pub begins_with : List Bool → List Bool → Bool
begins_with [] left = true
begins_with (b ∷ bs) [] = false
begins_with (true ∷ bs) (true ∷ left) = begins_with bs left
begins_with (true ∷ bs) (false ∷ left) = false
begins_with (false ∷ bs) (true ∷ left) = false
begins_with (false ∷ bs) (false ∷ left) = begins_with bs left

-- the number up to `most` with whose code the bits begin, and 0 where there is none
unfoldable pub number : ℕ → List Bool → ℕ
number zero left = 0
number (suc most) left = if begins_with (delta (suc most)) left then suc most else number most left

-- the `count` positions with whose codes the bits begin, where `least` may be the first
unfoldable pub positions_in : ℕ → ℕ → List Bool → List ℕ
positions_in zero least left = []
positions_in (suc count) least left =
    (least + number 4294967295 left - 1) ∷ positions_in count (least + number 4294967295 left) (drop (length (delta (number 4294967295 left))) left)

-- so many positions end here: the least that may follow, and the bit at which its code begins
pub record IsEnd (positions : List ℕ) (count least bit : ℕ) : Type 0 where
  pub number_is : count ≡ length positions
  pub least_is : least ≡ next_least 0 positions
  pub bit_is : bit ≡ length (codes 0 positions)

-- an entry has the position at a place, and the bit at which its code ends
pub record IsEntry (positions : List ℕ) (place : ℕ) (entry : Entry) : Type 0 where
  pub within : place < length positions
  pub position_is : entry.position ≡ slice_index positions place
  pub bit_is : entry.bit ≡ length (codes 0 (take (place + 1) positions))

-- there is one for each 128th position
pub record AreEntries (positions : List ℕ) (entries : List Entry) : Type 0 where
  pub number_is : length entries ≡ length positions / 128
  pub each : (k : ℕ) (d : Entry) → k < length entries → IsEntry positions (128 * k + 127) (slice_index_or entries k d)

-- a list is kept: the bytes are its code, and the entries are its
pub record IsKept (positions bytes : List ℕ) (entries : List Entry) (count least bit : ℕ) : Type 0 where
  pub code : IsCode bytes positions
  pub ends : IsEnd positions count least bit
  pub entries_are : AreEntries positions entries

-- A kept list is read: some of its positions are passed, and these are left. Their codes are next.
pub record IsPlaced (entries : List Entry) (count passed least : ℕ) (unread : Unread) (left : List ℕ) : Type 0 where
  pub before : List ℕ
  pub valid : ArePositions (before ++ left)
  pub number_is : count ≡ length before + length left
  pub ends : IsEnd before passed least unread.place
  pub rest : List Bool
  pub spelt : unread.left ≡ codes least left ++ rest
  pub entries_are : AreEntries (before ++ left) entries

-- a position from `least` on is among the first 128 that are left, or no more are left
abbrev pub IsNear : ℕ → List ℕ → Type 0
IsNear least left = (length left ≤ 128) ⊎ ((k : ℕ) × (k < 128) × (k < length left) × (least ≤ slice_index left k))
