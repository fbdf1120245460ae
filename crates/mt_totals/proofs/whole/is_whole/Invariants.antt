-- As many texts are live in the segments so far as these have.
use Rattle.mt_totals.proofs.AllLive.{AsMany}
use Rattle.mt_totals.proofs.whole.is_whole.Given as goal

abbrev pub invariant-loop-i : goal.invariant-loop-i
invariant-loop-i l = AsMany l.segments l.live l.i
