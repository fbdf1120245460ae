use Rattle.std.proofs.Common.{arith}
use Rattle.mt_vertical.proofs.Added.{none_added, one_added, long_next}
use Rattle.mt_vertical.proofs.values.add_column_values.Goals as goal

pub loop-init : goal.loop-init
loop-init c = record {
  room = omega (arith, c.in_ok-reserve.ensures.ok);
  added = none_added _ _ _ _ (omega arith);
}

pub loop-preserved : goal.loop-preserved
loop-preserved c = record {
  room = omega (arith, c.push_reserved.ensures.len, c.push_reserved.ensures.capacity, c.loop.invariant.room, c.loop-test.true);
  added = one_added _ _ _ _ _ _ _ _ _ c.loop.invariant.added c.loop-test.true c.push_reserved.ensures.items c.next_column.ensures (omega (arith, c.if-column-gt-VALUE_BYTES_LIMIT.false));
}

pub returns-then-column-gt-VALUE_BYTES_LIMIT-clause-long : goal.returns-then-column-gt-VALUE_BYTES_LIMIT-clause-long
returns-then-column-gt-VALUE_BYTES_LIMIT-clause-long c = λ e.
    long_next _ _ _ _ _ _ _ c.next_column.result.0.now c.loop.invariant.added c.loop-test.true c.next_column.ensures (omega (arith, c.if-column-gt-VALUE_BYTES_LIMIT.true))
