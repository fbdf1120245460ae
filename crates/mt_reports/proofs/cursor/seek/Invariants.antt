-- The live texts before the segment are counted, and the text is none of them; each turn passes a segment.
use Rattle.std.proofs.Common.{◌-◌, length}
use Rattle.mt_reports.proofs.Passed.{IsOnTheWay}
use Rattle.mt_reports.proofs.cursor.seek.Given as goal

abbrev pub invariant-loop-before : goal.invariant-loop-before
invariant-loop-before l = IsOnTheWay l.live l.text l.segment l.before

abbrev pub decreases-loop-before : goal.decreases-loop-before
decreases-loop-before l = length l.live - l.segment
