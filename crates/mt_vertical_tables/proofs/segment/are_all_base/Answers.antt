use Rattle.mt_vertical_tables.proofs.Lists.{bases_more, bases_all}
use Rattle.mt_vertical_tables.proofs.segment.are_all_base.Goals as goal

pub loop-attr-preserved : goal.loop-attr-preserved
loop-attr-preserved c = bases_more c.args.attrs.now c.loop-attr.attr-index c.attr-item.result c.is_base.result c.loop-attr-test.true c.attr-item.is c.is_base.ensures c.if-not-is_base.false c.loop-attr.invariant

pub returns : goal.returns
returns c = λ _. bases_all c.args.attrs.now c.loop-attr.attr-index c.loop-attr-test.false c.loop-attr.invariant
