use Rattle.mt_score.proofs.Doublings.{by_zeros, is_enough, once_more}
use Rattle.mt_score.proofs.dice.doublings.Goals as goal

pub returns-then-two_f-shift : goal.returns-then-two_f-shift
returns-then-two_f-shift c =
    let d = by_zeros c.args.two_f c.args.sum _ c.requires.positive c.requires.below_two c.ranges.two_f.fits c.ranges.sum.fits c.saturating_sub-shift.ensures in
    once_more c.args.two_f c.args.sum _ c.requires.positive c.requires.small d c.if-two_f-shift.true

pub returns-else-two_f-shift : goal.returns-else-two_f-shift
returns-else-two_f-shift c =
    let d = by_zeros c.args.two_f c.args.sum _ c.requires.positive c.requires.below_two c.ranges.two_f.fits c.ranges.sum.fits c.saturating_sub-shift.ensures in
    is_enough c.args.two_f c.args.sum _ c.requires.positive c.requires.small d c.if-two_f-shift.false
