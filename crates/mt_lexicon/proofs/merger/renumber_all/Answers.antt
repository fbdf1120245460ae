use Rattle.std.proofs.Common.{arith}
use Rattle.mt_lexicon.specs.Joins.{renumbered}
use Rattle.mt_lexicon.proofs.Renumbered.{one_changed_more}
use Rattle.mt_lexicon.proofs.merger.renumber_all.Goals as goal

pub loop-numbers-preserved : goal.loop-numbers-preserved
loop-numbers-preserved c =
    one_changed_more (renumbered c.args.next.now) c.loop-numbers.all c.args.all.now c.loop-numbers.numbers-index c.then.new.self c.numbers-item.result c.loop-numbers.invariant (omega arith) c.then.ensures
