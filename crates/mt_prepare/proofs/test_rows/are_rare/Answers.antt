use Rattle.std.proofs.Common.{ap, length, arith}
use Rattle.mt_prepare.proofs.test_rows.are_rare.Goals as goal

pub overflow_add-next : goal.overflow_add-next
overflow_add-next c = omega (arith, c.requires.numbers c.in-Some.number c.in-Some.ensures.found.is_in, c.len-count.ensures.number, ap length c.lexicon.ensures)

pub loop-number-smaller : goal.loop-number-smaller
loop-number-smaller c = omega (arith, c.requires.numbers c.in-Some.number c.in-Some.ensures.found.is_in, c.len-count.ensures.number, ap length c.lexicon.ensures, c.in-Some.ensures.found.from)
