-- The marks from number i on tell, and the sweep has not passed the span before.
use Rattle.mt_rows.proofs.Marking.{MarkingContaining}
use Rattle.mt_rows.proofs.filters.mark_containing.Given as goal

abbrev pub invariant-loop-i : goal.invariant-loop-i
invariant-loop-i l = MarkingContaining l.spans l.operand l.negated l.back.0 l.back.1.0 l.marks.items l.i

abbrev pub decreases-loop-i : goal.decreases-loop-i
decreases-loop-i l = l.i
