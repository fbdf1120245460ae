use Rattle.std.proofs.Common.{arith, ◌+◌, ◌*◌}
use Rattle.mt_sketch.proofs.Ranking.{weighed_is, small_weighed}
use Rattle.mt_sketch.proofs.collocates.word_of.Goals as goal

pub returns-clause-is : goal.returns-clause-is
returns-clause-is c =
    weighed_is c.new.result (record { word = c.args.word; both = c.args.both; right = c.args.right }) c.args.left (2 * c.from-3.result) (c.from.result + c.from-2.result) c.new.ensures (omega (arith, c.from-3.ensures)) (omega (arith, c.from.ensures, c.from-2.ensures))

pub returns-clause-small : goal.returns-clause-small
returns-clause-small c =
    small_weighed c.new.result c.args.word (2 * c.from-3.result) (c.from.result + c.from-2.result) c.new.ensures (omega (arith, c.from-3.ensures, c.ranges.both.fits)) (omega (arith, c.from.ensures, c.from-2.ensures, c.ranges.left.fits, c.ranges.right.fits))
