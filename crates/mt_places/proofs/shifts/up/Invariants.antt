-- Words from `at` on are moved, the others are as at first.
use Rattle.std.proofs.Common.{ℕ, ◌≡◌, ◌<◌, ◌≤◌, length, get_or}
use Rattle.mt_places.specs.Places.{WordIs, IsAbove}
use Rattle.mt_places.proofs.shifts.up.Given as goal

abbrev pub invariant-loop-at : goal.invariant-loop-at
invariant-loop-at l =
    record {
      within : l.at ≤ length l.set;
      done : (j : ℕ) → l.at ≤ j → j < length l.set → WordIs (IsAbove l.initial.set l.by) j (get_or l.set j 0);
      rest : (j : ℕ) → j < l.at → get_or l.set j 0 ≡ get_or l.initial.set j 0;
    }

abbrev pub decreases-loop-at : goal.decreases-loop-at
decreases-loop-at l = l.at
