use Rattle.mt_vertical.proofs.values.column_at.Goals as goal
use Rattle.mt_vertical.proofs.OneColumn.{column_passed, column_met}

pub loop-preserved : goal.loop-preserved
loop-preserved c = column_passed _ _ _ _ _ _ c.loop-test.true c.loop.invariant c.next_column.ensures

pub returns : goal.returns
returns c = column_met _ _ _ _ _ _ c.loop-test.false c.loop.invariant c.next_column-2.ensures
