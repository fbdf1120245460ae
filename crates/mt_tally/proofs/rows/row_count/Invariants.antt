-- The rows of the entries so far are counted.
use Rattle.std.proofs.Common.{ℕ, ◌≤◌}
use Rattle.mt_tally.specs.Counts.{HasCount}
use Rattle.mt_tally.specs.Tallies.{IsRowUpto}
use Rattle.mt_tally.proofs.rows.row_count.Given as goal

abbrev pub invariant-loop-entry : goal.invariant-loop-entry
invariant-loop-entry l = record {
  counted : (text : ℕ) → HasCount (IsRowUpto l.entries text l.entry-index) l.count;
  within : l.count ≤ l.room;
}
