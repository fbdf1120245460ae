-- What was taken so far begins by the begin of `to`.
use Rattle.std.proofs.Common.{◌-◌, length}
use Rattle.mt_rows.specs.Filters.{Front}
use Rattle.mt_rows.proofs.filters.advance.Given as goal

abbrev pub invariant-loop-span : goal.invariant-loop-span
invariant-loop-span l = Front l.operand l.front.taken l.front.best l.to

abbrev pub decreases-loop-span : goal.decreases-loop-span
decreases-loop-span l = length l.operand - l.front.taken
