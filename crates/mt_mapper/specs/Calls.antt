-- Counts of calls, which never fall and stand still at their last value.
use Rattle.std.specs.Prelude.{ℕ, ◌≡◌, ◌+◌, ◌≤◌, nat_lt, if◌then◌else◌, min}

-- The last value of a count of calls: 2^64 - 1.
abbrev pub last_count : ℕ
last_count = 18446744073709551615

-- A count after so many more calls: each raises it by one, up to the last value.
abbrev pub counted : ℕ → ℕ → ℕ
counted calls more = if nat_lt calls last_count then min (calls + more) last_count else calls

-- At most so many more calls were counted.
pub record CountedAtMost (calls most new : ℕ) : Type 0 where
  pub more : ℕ
  pub few : more ≤ most
  pub are : new ≡ counted calls more
