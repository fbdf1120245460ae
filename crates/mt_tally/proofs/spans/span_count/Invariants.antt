-- The spans of the entries so far are counted.
use Rattle.std.proofs.Common.{◌≡◌, ◌+◌, ◌/◌, ◌≤◌, length}
use Rattle.mt_tally.specs.Counts.{HasCount}
use Rattle.mt_tally.specs.Tallies.{HasSeen, IsSpanUpto}
use Rattle.mt_tally.proofs.spans.span_count.Given as goal

abbrev pub invariant-loop-at : goal.invariant-loop-at
invariant-loop-at g l = record {
  width : length l.seen.begins ≡ l.last / 64 + 1;
  seen : HasSeen l.segment l.conds l.entries l.text l.at l.seen.tokens l.seen.begins;
  counted : HasCount (IsSpanUpto l.segment l.conds l.entries l.text l.at) l.count;
  within : l.at ≤ length l.entries;
  rises : l.initial.steps ≤ l.steps;
}
