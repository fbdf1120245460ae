use Rattle.std.proofs.Common.{arith}
use Rattle.mt_vertical.proofs.Filled.{column_long}
use Rattle.mt_vertical.proofs.LongColumns.{none_passed, one_passed, all_passed}
use Rattle.mt_vertical.proofs.values.has_long_column.Goals as goal

pub loop-init : goal.loop-init
loop-init c = none_passed _ _ _ (omega arith)

pub loop-preserved : goal.loop-preserved
loop-preserved c = one_passed _ _ _ _ _ _ c.loop.invariant c.loop-test.true c.next_column.ensures (omega (arith, c.if-column-gt-VALUE_BYTES_LIMIT.false))

pub returns-then-column-gt-VALUE_BYTES_LIMIT-clause-long : goal.returns-then-column-gt-VALUE_BYTES_LIMIT-clause-long
returns-then-column-gt-VALUE_BYTES_LIMIT-clause-long c = λ e.
    column_long _ _ _ c.next_column.result.0.now _ _ _ c.loop-test.true c.loop.invariant.so_far c.next_column.ensures (omega (arith, c.if-column-gt-VALUE_BYTES_LIMIT.true))

pub returns-clause-short : goal.returns-clause-short
returns-clause-short c = λ e. all_passed _ _ _ _ (omega (arith, c.loop-test.false)) c.loop.invariant
