use Rattle.std.proofs.Common.{get_or, refl, arith}
use Rattle.mt_places.proofs.Bits.{none_in}
use Rattle.mt_places.proofs.Finding.{some_in}
use Rattle.mt_places.proofs.seeks.is_empty.Goals as goal

pub returns-then-word-ne0-clause-some : goal.returns-then-word-ne0-clause-some
returns-then-word-ne0-clause-some c = λ _. some_in c.args.set.now c.loop-word.word-index (get_or c.args.set.now c.loop-word.word-index 0) refl (c.type_inv.set c.loop-word.word-index).fits c.if-word-ne0.true

pub returns-clause-none : goal.returns-clause-none
returns-clause-none c = λ _. none_in c.args.set.now (λ j lt. c.loop-word.invariant j (omega arith))
