-- Where a live text stands among segments, by the numbers of the live texts of each.
use Rattle.std.specs.Prelude.{ℕ, ◌≡◌, ◌+◌, ◌<◌, ◌≤◌, List, [], length, sum_by, take, slice_index_or}

-- how many live texts all segments have together
abbrev pub texts_of : List (List ℕ) → ℕ
texts_of live = sum_by (λ numbers. length numbers) live

-- so many live texts stand in the segments before this one
pub record IsAt (live : List (List ℕ)) (segment before : ℕ) : Type 0 where
  pub within : segment ≤ length live
  pub count : before ≡ texts_of (take segment live)

-- the live text with this number stands in the segment, behind so many in the segments before it
pub record Stands (live : List (List ℕ)) (text segment before : ℕ) : Type 0 where
  pub at : IsAt live segment before
  pub inside : segment < length live
  pub from : before ≤ text
  pub to : text < before + length (slice_index_or live segment [])
