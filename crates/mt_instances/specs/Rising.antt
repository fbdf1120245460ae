-- Entries that come in ascending order under each name.
use Rattle.std.specs.Prelude.{ℕ, ◌≡◌, ◌+◌, ◌-◌, ◌*◌, ◌^◌, ◌<◌, Bool, true, List, Option, None, Some, slice_index}
use Rattle.std.specs.List.{Contains}
use Rattle.mt_count_spec.specs.Counts.{EachOnce}
use Rattle.mt_counts.specs.declared.note.Note.{Note}
use Rattle.mt_instances.specs.Entries.{AreNamed}

-- the rank of two places: by the lower of them, then by the greater, then by the first
abbrev pub rank_of_two : (first second : ℕ) → ℕ
rank_of_two first second = (first - (first - second)) * 2 ^ 64 + (second + (first - second)) * 2 ^ 32 + first

-- the rank of an entry by its places, one or two
abbrev pub rank_at : (first : ℕ) → Option ℕ → ℕ
rank_at first None = rank_of_two first first
rank_at first (Some second) = rank_of_two first second

-- the rank of an entry among those of its name
abbrev pub rank_of : Note → ℕ
rank_of entry = rank_at entry.first entry.second

-- Each entry stands once, and its rank is below the end of its name.
pub record AreRising (entries : List Note) (ends : List ℕ) : Type 0 where
  pub once : EachOnce entries
  pub below : (entry : Note) → Contains entries entry → rank_of entry < slice_index ends entry.name

-- the name of each entry has a number below this, and where they are said to rise they do
pub record AreKept (names : ℕ) (entries : List Note) (ends : List ℕ) (rising : Bool) : Type 0 where
  pub named : AreNamed names entries
  pub risen : rising ≡ true → AreRising entries ends
