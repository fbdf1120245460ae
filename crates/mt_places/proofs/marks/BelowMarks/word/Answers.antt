use Rattle.std.proofs.Common.{arith}
use Rattle.mt_places.proofs.Bits.{all_below, some_below}
use Rattle.mt_places.proofs.marks.BelowMarks.word.Goals as goal

pub returns-then-at-full : goal.returns-then-at-full
returns-then-at-full c = all_below c.args.self.now.end c.args.at c.if-at-full.true

pub returns : goal.returns
returns c = rw c.ones.ensures (some_below c.args.self.now.end c.args.at (omega (arith, c.if-at-full.false, c.if-at-full-2.false)))
