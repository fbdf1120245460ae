-- The lists of the numbers below `next` are in the row.
use Rattle.std.proofs.Common.{◌≡◌, ◌-◌, ◌≤◌, length}
use Rattle.mt_places.specs.Places.{HasJust}
use Rattle.mt_prepare.specs.TestRows.{IsListedBelow}
use Rattle.mt_prepare.proofs.test_rows.add_lists.Given as goal

abbrev pub invariant-loop-number : goal.invariant-loop-number
invariant-loop-number g l =
    record {
      width : length l.row ≡ length l.initial.row;
      places : HasJust (IsListedBelow l.segment l.attr l.numbers l.next) l.row;
      rises : l.initial.steps ≤ l.steps;
    }

abbrev pub decreases-loop-number : goal.decreases-loop-number
decreases-loop-number g l = l._count - l.next
