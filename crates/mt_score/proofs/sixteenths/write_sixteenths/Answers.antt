use Rattle.std.proofs.Common.{◌≡◌, ℤ, w32, to_z, of_z, length, drop, arith, ap, ◌∙◌}
use Rattle.mt_sketch_spec.specs.Score.{sixteenths_text, unsigned_text}
use Rattle.std.proofs.lemmas.Fmt.{length-decimal-le}
use Rattle.std.proofs.lemmas.List.{length-set}
use Rattle.std.proofs.lemmas.Int.{to_z-of_z}
use Rattle.mt_score.proofs.Texts.{of_size, with_no_sign, with_sign, to_the_end}
use Rattle.mt_score.proofs.sixteenths.write_sixteenths.Goals as goal
use Rattle.mt_score.proofs.sixteenths.write_sixteenths.Goals.{then-k-lt0, else-k-lt0}

pub write_digits-start-requires : goal.write_digits-start-requires
write_digits-start-requires c =
    (length-decimal-le 10 c.from.result (omega arith) (omega arith) (omega arith), omega arith)

pub overflow_sub-start : goal.overflow_sub-start
overflow_sub-start c =
    let short = length-decimal-le 9 c.from.result (omega arith) (omega arith) (omega arith) in
    omega (arith, c.write_digits-start.ensures.start)

pub returns-clause-ok : goal.returns-clause-ok
returns-clause-ok c =
    let k : ℤ = to_z w32 (of_z w32 c.args.k) in
    let size = c.unsigned_abs-size.result in
    let start = c.write_digits-start.result in
    let buffer = c.write_digits-start.new.buf in
    let room : length buffer ≡ 15 = c.write_digits-start.auto.buf in
    let short = length-decimal-le 9 c.from.result (omega arith) (omega arith) (omega arith) in
    let unsigned : drop start buffer ≡ unsigned_text size =
    c.write_digits-start.ensures.written ∙ of_size size c.from.result _ _ _ _ c.from.ensures c.digit.ensures c.digit-2.ensures c.digit-3.ensures c.digit-4.ensures
    in
    let signed : drop c.if-k-lt0.start c.if-k-lt0.text ≡ sixteenths_text k =
    elim c.if-k-lt0.branch [
      | then-k-lt0 w ↦ rw (w.text-is, w.start-is) (with_sign k size start buffer w.if-k-lt0.true c.unsigned_abs-size.ensures.value unsigned (omega (arith, c.write_digits-start.ensures.start)) (omega (arith, room, c.write_digits-start.ensures.start)))
      | else-k-lt0 w ↦ rw (w.text-is, w.start-is) (unsigned ∙ with_no_sign k size w.if-k-lt0.false c.unsigned_abs-size.ensures.value)
    ]
    in
    let kept : length c.if-k-lt0.text ≡ 15 =
    elim c.if-k-lt0.branch [ then-k-lt0 w ↦ ap length w.text-is ∙ length-set buffer _ _ ∙ room | else-k-lt0 w ↦ ap length w.text-is ∙ room ]
    in
    let text = signed ∙ ap sixteenths_text (to_z-of_z w32 c.args.k c.ranges.k) in
    let whole = to_the_end c.if-k-lt0.text (sixteenths_text c.args.k) c.if-k-lt0.start 15 kept text in
    rw whole at c.extend.ensures.ok
