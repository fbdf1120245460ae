-- So many turns lead up to `far`.
use Rattle.mt_automaton.specs.Parts.{PartMatches}
use Rattle.mt_automaton.specs.Bounds.{EndsBy}
use Rattle.mt_automaton.proofs.Turned.{Repeated}
use Rattle.mt_automaton.proofs.bound.+part_end.Given as goal

abbrev pub decreases-part_end : goal.decreases-part_end
decreases-part_end g l = goal.size-part_end g l

abbrev pub invariant-loop : goal.invariant-loop
invariant-loop g l =
    let v = g.V.View.seen l.view in
    EndsBy (Repeated (PartMatches v l.inner.value) 0 l.counter) v.text.tokens l.at l.far
