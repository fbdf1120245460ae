-- The first i marks tell, and the sweep has not passed the span that is next.
use Rattle.mt_rows.proofs.Marking.{MarkingWithin}
use Rattle.mt_rows.proofs.filters.mark_within.Given as goal

abbrev pub invariant-loop-i : goal.invariant-loop-i
invariant-loop-i l = MarkingWithin l.spans l.operand l.negated l.front.0 l.front.1.0 l.marks.items l.i
