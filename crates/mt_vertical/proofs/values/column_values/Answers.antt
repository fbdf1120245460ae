use Rattle.std.proofs.Common.{arith, refl}
use Rattle.mt_vertical.proofs.values.column_values.Goals as goal
use Rattle.mt_vertical.proofs.Filled.{kept_push, column_long, short_push}

pub returns-then-column-gt-VALUE_BYTES_LIMIT-clause-long : goal.returns-then-column-gt-VALUE_BYTES_LIMIT-clause-long
returns-then-column-gt-VALUE_BYTES_LIMIT-clause-long c = λ _. column_long _ _ _ _ _ _ _ c.loop-test.true c.loop.invariant.so_far c.next_column.ensures (omega (arith, c.if-column-gt-VALUE_BYTES_LIMIT.true))

pub loop-preserved : goal.loop-preserved
loop-preserved c = record {
  so_far = kept_push _ _ _ _ _ _ _ _ _ c.in_ok-push.ensures.ok refl c.loop-test.true c.loop.invariant.so_far c.next_column.ensures;
  short = short_push _ _ _ _ c.in_ok-push.ensures.ok refl c.loop.invariant.short (omega (arith, c.if-column-gt-VALUE_BYTES_LIMIT.false));
}
