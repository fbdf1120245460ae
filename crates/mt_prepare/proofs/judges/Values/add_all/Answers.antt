use Rattle.std.proofs.Common.{arith}
use Rattle.mt_prepare.proofs.Found.{values_more}
use Rattle.mt_prepare.proofs.judges.Values.add_all.Goals as goal

pub loop-span-preserved : goal.loop-span-preserved
loop-span-preserved c =
    values_more c.args.attr c.loop-span.span-index c.args.spans.now c.span-item.result c.args.self.now c.loop-span.self c.add.new.self (omega arith) c.span-item.is c.loop-span.invariant
    c.in_ok-add.ensures.kept (rw c.value_of.ensures at c.in_ok-add.ensures.has)
