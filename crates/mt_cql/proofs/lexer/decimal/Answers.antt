use Rattle.std.proofs.Common.{arith, get_or}
use Rattle.mt_cql.proofs.Words.{digit_range, value_bound}
use Rattle.mt_cql.proofs.lexer.decimal.Goals as goal

pub overflow_mul-value : goal.overflow_mul-value
overflow_mul-value c = let b = value_bound c.loop-digit.digit-index c.loop-digit.value (omega (arith, c.requires.few)) c.loop-digit.invariant.1 in omega (arith, b)

pub overflow_add-value : goal.overflow_add-value
overflow_add-value c =
    let b = value_bound c.loop-digit.digit-index c.loop-digit.value (omega (arith, c.requires.few)) c.loop-digit.invariant.1 in
    let r = digit_range (get_or c.args.digits.now c.loop-digit.digit-index 0) (c.requires.each c.loop-digit.digit-index 0 c.loop-digit-test.true) in
    omega (arith, b, r.1)
