-- Counts of faults, which never fall.
use Rattle.std.specs.Prelude.{ℕ, ◌≡◌, ◌+◌, ◌<◌, ◌⊎◌, min}

-- The last value of a count of faults: 2^64 - 1.
abbrev pub last_count : ℕ
last_count = 18446744073709551615

-- The count rose, or stands at its last value.
abbrev pub Rose : ℕ → ℕ → Type 0
Rose old new = (old < new) ⊎ ((old ≡ last_count) × (new ≡ last_count))

-- A count after one more fault.
abbrev pub one_more : ℕ → ℕ
one_more count = min (count + 1) last_count
