use Rattle.std.proofs.Common.{refl}
use Rattle.mt_script.proofs.Forms.{parsed, decimal_at_no, not_true}
use Rattle.mt_script.proofs.words.read_decimal.Goals as goal

pub returns-in-Ok : goal.returns-in-Ok
returns-in-Ok c = rw c.in-Ok.is at (parsed c.args.word.now c.parse.result (c.if-is_decimal.ensures.0 refl) c.parse.ensures.value.0)

pub returns-in-Err : goal.returns-in-Err
returns-in-Err c = rw c.in-Err.is at (parsed c.args.word.now c.parse.result (c.if-is_decimal.ensures.0 refl) c.parse.ensures.value.0)

pub returns-else-is_decimal : goal.returns-else-is_decimal
returns-else-is_decimal c = decimal_at_no c.args.word.now (λ d. not_true (c.if-is_decimal.ensures.1 d))
