-- The rows of the groups so far are there.
use Rattle.mt_automaton.specs.RowsFrom.{HasAll}
use Rattle.mt_automaton.proofs.Gathered.{OfBelow}
use Rattle.mt_automaton.proofs.rows.gather.Given as goal

abbrev pub invariant-loop-group : goal.invariant-loop-group
invariant-loop-group l = HasAll (OfBelow l.groups l.text l.begin l.group-index) l.rows.items
