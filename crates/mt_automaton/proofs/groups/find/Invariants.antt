-- Groups before `low` come before the labels, and those from `high` on behind them.
use Rattle.std.proofs.Common.{ℕ, ◌-◌, ◌<◌, ◌≤◌, length}
use Rattle.mt_automaton.specs.Groups.{group, Before}
use Rattle.mt_automaton.proofs.groups.find.Given as goal

abbrev pub invariant-loop-low : goal.invariant-loop-low
invariant-loop-low l =
    record {
      order : l.low ≤ l.high;
      within : l.high ≤ length l.groups;
      below : (i : ℕ) → i < l.low → Before (group l.groups i).labels l.labels;
      above : (i : ℕ) → l.high ≤ i → i < length l.groups → Before l.labels (group l.groups i).labels;
    }

abbrev pub decreases-loop-low : goal.decreases-loop-low
decreases-loop-low l = l.high - l.low
