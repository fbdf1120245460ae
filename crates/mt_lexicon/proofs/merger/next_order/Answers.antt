use Rattle.mt_lexicon.proofs.Order.{compared}
use Rattle.mt_lexicon.proofs.merger.next_order.Goals as goal

pub returns-else-j-len-2 : goal.returns-else-j-len-2
returns-else-j-len-2 c =
    compared c.args.first.now c.args.i c.args.second.now c.args.j c.value.result.now c.value-else-j-len-2.result.now c.cmp.result c.value.ensures c.value-else-j-len-2.ensures c.cmp.ensures
