-- Entries before `low` come before the shape, and those from `high` on behind them.
use Rattle.std.proofs.Common.{ℕ, ◌-◌, ◌<◌, ◌≤◌, length}
use Rattle.mt_shapes.specs.Tables.{entry, Before}
use Rattle.mt_shapes.proofs.table.find.Given as goal

abbrev pub invariant-loop-low : goal.invariant-loop-low
invariant-loop-low l =
    record {
      order : l.low ≤ l.high;
      within : l.high ≤ length l.entries;
      below : (i : ℕ) → i < l.low → Before (entry l.entries i).shape l.shape;
      above : (i : ℕ) → l.high ≤ i → i < length l.entries → Before l.shape (entry l.entries i).shape;
    }

abbrev pub decreases-loop-low : goal.decreases-loop-low
decreases-loop-low l = l.high - l.low
