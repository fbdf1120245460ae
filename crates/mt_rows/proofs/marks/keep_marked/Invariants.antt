-- Of the first i items those that are kept stand in the first places.
use Rattle.mt_rows.proofs.Keeping.{Keeping}
use Rattle.mt_rows.proofs.marks.keep_marked.Given as goal

abbrev pub invariant-loop-i : goal.invariant-loop-i
invariant-loop-i g l = Keeping l.marks l.fn.items.items l.items.items l.count l.i
