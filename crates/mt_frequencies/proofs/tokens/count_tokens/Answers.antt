use Rattle.std.proofs.Common.{arith}
use Rattle.mt_frequencies.proofs.Places.{one_counted}
use Rattle.mt_frequencies.proofs.tokens.count_tokens.Goals as goal

pub loop-place-preserved : goal.loop-place-preserved
loop-place-preserved c =
    one_counted c.args.segment.now c.args.attr c.args.from c.loop-place.place c.number_of-number.result c.index_mut.result.now c.args.counts.now.items c.loop-place.counts.items c.loop-place.auto.place c.number_of-number.ensures.number
    (omega (arith, c.number_of-number.ensures.within, c.loop-place.invariant.count, c.requires.count)) c.index_mut.ensures.value c.loop-place.invariant
