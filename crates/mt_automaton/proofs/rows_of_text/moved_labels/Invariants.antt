-- The places so far are moved.
use Rattle.mt_automaton.proofs.MovedRows.{MovedSoFar}
use Rattle.mt_automaton.proofs.rows_of_text.moved_labels.Given as goal

abbrev pub invariant-loop-i : goal.invariant-loop-i
invariant-loop-i l = MovedSoFar l.base l.labels l.places l.i
