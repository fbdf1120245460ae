-- The rows of the groups so far were added.
use Rattle.mt_automaton.specs.Parts.{width}
use Rattle.mt_automaton.specs.Groups.{AddsRows}
use Rattle.mt_automaton.proofs.Led.{LeadsBelow}
use Rattle.mt_automaton.proofs.groups.+labelled_rows.Given as goal

abbrev pub decreases-labelled_rows : goal.decreases-labelled_rows
decreases-labelled_rows g l = goal.size-labelled_rows g l

abbrev pub invariant-loop-group : goal.invariant-loop-group
invariant-loop-group g l =
    let v = g.V.View.seen l.view in
    AddsRows (width v) (LeadsBelow v l.right.value l.group-items l.group-index l.allowed) l.initial.out.items l.out.items
