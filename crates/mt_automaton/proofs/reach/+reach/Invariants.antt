-- `turn` is what k turns lead to, but for places that fewer lead to, and `all` what at least `least` and at most k turns lead to.
use Rattle.mt_automaton.specs.Parts.{PartMatches}
use Rattle.mt_automaton.specs.Ways.{Along}
use Rattle.mt_automaton.proofs.Turned.{Turning}
use Rattle.mt_automaton.proofs.reach.+reach.Given as goal

abbrev pub decreases-reach : goal.decreases-reach
decreases-reach g l = goal.size-reach g l

abbrev pub invariant-loop-k : goal.invariant-loop-k
invariant-loop-k g l = Turning (Along l.way (PartMatches (g.V.View.seen l.view) l.inner.value)) l.least l.k l.fn.set l.turn l.all
