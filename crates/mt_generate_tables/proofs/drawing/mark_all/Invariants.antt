-- The marks are those of both up to a place.
use Rattle.mt_generate_tables.proofs.Codes.{AreMarksUpTo}
use Rattle.mt_generate_tables.proofs.drawing.mark_all.Given as goal

abbrev pub invariant-loop-place : goal.invariant-loop-place
invariant-loop-place l = AreMarksUpTo l.initial.marks l.others l.place l.marks
