use Rattle.std.proofs.Common.{arith, refl, ◌≡◌, ◌*◌, ◌^◌, ◌+◌}
use Rattle.std.proofs.lemmas.Int.{ints}
use Rattle.mt_score.proofs.Great.{few, doubled_once, by_quotient}
use Rattle.mt_score.proofs.wide.great_score.Goals as goal

pub loop-doubled-preserved : goal.loop-doubled-preserved
loop-doubled-preserved c =
    let i = c.loop-doubled.invariant in
    let is : c.loop-doubled.doubled * 2 ≡ c.args.two_f * 2 ^ (c.loop-doubled.doublings + 1) = doubled_once c.args.two_f c.loop-doubled.doubled c.loop-doubled.doublings i.is in
    record { is = is; below = omega arith; some = omega (arith, i.some); few = few c.args.two_f (c.loop-doubled.doublings + 1) 66 c.requires.positive (omega (arith, is, c.requires.small)) }

pub returns : goal.returns
returns c =
    let i = c.loop-doubled.invariant in
    by_quotient c.args.two_f c.args.sum c.loop-doubled.doublings c.last_within.result c.loop-doubled.doubled _ _ (omega (arith, ints, i.few, c.last_within.ensures.index)) c.last_within.ensures.index (omega (arith, c.requires.below_two)) i.is i.below refl c.last_within.ensures.within c.last_within.ensures.last
