use Rattle.mt_generate.proofs.Ranges.{sentences_more, sentence_is, end_of}
use Rattle.mt_generate.proofs.text.structs.Goals as goal

pub loop-number-preserved : goal.loop-number-preserved
loop-number-preserved c =
    let end = end_of c.args.tokens c.loop-number.number _ _ c.ranges.tokens.fits c.saturating_add.ensures c.min-end.ensures in
    let one = sentence_is c.args.tokens c.loop-number.number _ _ _ c.new-in-loop-number-2.ensures end c.new-in-loop-number.ensures in
    sentences_more c.args.tokens c.loop-number.number _ _ _ _ c.loop-number.invariant c.in_ok-push-3.ensures.ok one
