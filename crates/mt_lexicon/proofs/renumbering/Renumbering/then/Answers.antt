use Rattle.std.proofs.Common.{arith, slice_index}
use Rattle.mt_lexicon.proofs.Renumbered.{one_changed_more}
use Rattle.mt_lexicon.proofs.renumbering.Renumbering.then.Goals as goal

pub loop-number-preserved : goal.loop-number-preserved
loop-number-preserved c =
    one_changed_more (λ n. slice_index c.args.next.now n) c.loop-number.number-items c.deref_mut-number-items.result.now c.loop-number.number-index c.get_or_first.result 0 c.loop-number.invariant (omega arith) c.get_or_first.ensures
