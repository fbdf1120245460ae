use Rattle.std.proofs.Common.{arith, ◌≡◌, ◌*◌, ◌^◌}
use Rattle.std.proofs.lemmas.Int.{ints}
use Rattle.mt_score.proofs.Scores.{by_table}
use Rattle.mt_score.proofs.dice.log_dice.Goals as goal

pub returns : goal.returns
returns c =
    let d = c.doublings-doublings in
    let limit : c.from-limit.result ≡ c.args.two_f * 2 ^ d.result = omega (arith, c.from-limit.ensures, d.ensures.least, c.requires.small) in
    by_table c.args.two_f c.args.sum d.result c.last_within.result _ (omega (arith, ints, c.last_within.ensures.index, d.ensures.few)) c.last_within.ensures.index d.ensures.least (omega (arith, limit, c.last_within.ensures.within)) (λ h. omega (arith, limit, c.last_within.ensures.last h))
