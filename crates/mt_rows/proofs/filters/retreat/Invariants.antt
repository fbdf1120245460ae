-- By the begins of what was taken so far `to` begins.
use Rattle.mt_rows.specs.Filters.{Back}
use Rattle.mt_rows.proofs.filters.retreat.Given as goal

abbrev pub invariant-loop-span : goal.invariant-loop-span
invariant-loop-span l = Back l.operand l.back.left l.back.best l.to

abbrev pub decreases-loop-span : goal.decreases-loop-span
decreases-loop-span l = l.back.left
