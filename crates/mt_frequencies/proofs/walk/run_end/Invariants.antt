-- The spans so far stand one behind another.
use Rattle.std.proofs.Common.{◌-◌, ◌≤◌}
use Rattle.mt_frequencies.specs.Runs.{AreNext}
use Rattle.mt_frequencies.proofs.walk.run_end.Given as goal

abbrev pub invariant-loop-end : goal.invariant-loop-end
invariant-loop-end l = record {
  from : l.from ≤ l.end;
  to : l.end ≤ l.to;
  next : AreNext l.from l.end l.spans;
}

abbrev pub decreases-loop-end : goal.decreases-loop-end
decreases-loop-end l = l.to - l.end
