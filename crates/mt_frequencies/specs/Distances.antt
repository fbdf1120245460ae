-- Distances from a span.
use Rattle.std.specs.Prelude.{ℕ, true, ℤ, pos, negsuc, ◌+◌, ◌-◌, ◌≤◌, List, ◌++◌}
use Rattle.mt_report_spec.specs.Near.{Near, numbers_from}
use Rattle.mt_frequencies.specs.declared.distances.Distances.{Distances}
use Rattle.mt_frequencies.specs.declared.distances.Near as own

-- the distances to the left: those of these sizes, the greatest first
abbrev pub distances_before : (from to : ℕ) → List ℤ
distances_before from to = numbers_from (negsuc (to - 2)) (to - from)

-- the distances to the right
abbrev pub distances_behind : (from to : ℕ) → List ℤ
distances_behind from to = numbers_from (pos from) (to - from)

-- all of them, ascending
abbrev pub distances_of : Distances → List ℤ
distances_of all = distances_before all.before_from all.before_to ++ distances_behind all.behind_from all.behind_to

-- no distance to the left is 0
pub record AreDistances (all : Distances) : Type 0 where
  pub left : 1 ≤ all.before_from
  pub before : all.before_from ≤ all.before_to
  pub behind : all.behind_from ≤ all.behind_to

-- how far to the left a distance leads
abbrev pub left_size : ℤ → ℕ
left_size (pos n) = 0
left_size (negsuc n) = n + 1

-- how far to the right it leads
abbrev pub right_size : ℤ → ℕ
right_size (pos n) = n
right_size (negsuc n) = 0

-- what is looked at near a span
abbrev pub near_of : own.Near → Near
near_of near = record { attr = near.attr; distances = distances_of near.distances; behind_last = true }
