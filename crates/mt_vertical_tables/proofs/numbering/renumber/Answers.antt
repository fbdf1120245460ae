use Rattle.std.proofs.Common.{arith, slice_index}
use Rattle.mt_segment.proofs.Renumbered.{one_changed_more}
use Rattle.mt_segment.proofs.Numbered.{not_yet_changed}
use Rattle.mt_vertical_tables.proofs.numbering.renumber.Goals as goal

pub get-requires : goal.get-requires
get-requires c = not_yet_changed c.args.next.now c.loop-number.numbers c.args.numbers.now c.loop-number.number-index c.loop-number.invariant.count c.loop-number.invariant.left (omega arith) c.requires

pub loop-number-preserved : goal.loop-number-preserved
loop-number-preserved c =
    one_changed_more (λ n. slice_index c.args.next.now n) c.loop-number.numbers c.args.numbers.now c.loop-number.number-index c.get.result 0 c.loop-number.invariant (omega arith) c.get.ensures
