use Rattle.std.proofs.Common.{arith}
use Rattle.mt_segment.proofs.Assembled.{column_next}
use Rattle.mt_segment.proofs.bases.column_before.Goals as goal

pub loop-before-preserved : goal.loop-before-preserved
loop-before-preserved c =
    column_next c.args.attrs.now c.loop-before.before c.loop-before.column c.index-attrs-before.result c.is_base.result (omega (arith, c.loop-before-test.true, c.requires)) c.index-attrs-before.is c.loop-before.invariant c.is_base.ensures
