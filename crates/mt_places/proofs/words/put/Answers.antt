use Rattle.std.proofs.Common.{arith}
use Rattle.mt_places.proofs.Bits.{just, one_more}
use Rattle.mt_places.proofs.words.put.Goals as goal

pub loop-at-preserved : goal.loop-at-preserved
loop-at-preserved g c = one_more (g.M.Marks.stands c.args.marks.now) c.loop-at.set c.loop-at.at c.word.result (omega arith) c.loop-at.invariant c.word.ensures

pub returns : goal.returns
returns g c = just (g.M.Marks.stands c.args.marks.now) c.loop-at.set (λ j lt. c.loop-at.invariant j (omega arith))
