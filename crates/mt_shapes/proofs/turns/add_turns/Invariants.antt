-- `turn` tells of k turns, and what at most k turns match was added.
use Rattle.mt_shapes.proofs.Turning.{Turning}
use Rattle.mt_shapes.proofs.turns.add_turns.Given as goal

abbrev pub invariant-loop-k : goal.invariant-loop-k
invariant-loop-k l = Turning l.last l.inner l.least l.k l.turn.items l.fn.out.items l.out.items
