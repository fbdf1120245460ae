use Rattle.std.proofs.Common.{rules, ℕ, ◌<◌, List, [], length, refl, ◌∙◌, ap, sym, subst, arith}
use Rattle.std.specs.Str.Iter.{lines_rest, lines_steps}
use Rattle.std.specs.Str.Lines.{lines}
use Rattle.mt_file_spec.specs.Vertical.{FirstTextFault}
use Rattle.mt_vertical.specs.Causes.{text_cause_of}
use Rattle.mt_vertical.specs.declared.error.BadLine.{BadLine}
use Rattle.mt_vertical.proofs.SoFar.{HasRead, line_is_read, nothing_read, text_is}
use Rattle.mt_vertical.proofs.LinesRead.{before_lines, one_line, bad_line, line_refused, line_within, told_bad, all_lines}
use Rattle.mt_base.proofs.FirstLine.{length-lines}
use Rattle.mt_vertical.proofs.borrowed.read_borrowed.Goals as goal

pub loop-line-init : goal.loop-line-init
loop-line-init c =
    before_lines c.args.registry.now c.args.text.now _ (ap lines_rest c.into_iter-line-iterator.ensures.into_iter_gives ∙ c.lines-line-items.ensures.rest)
    (nothing_read _ _ _ _ refl c.in_ok-reader.ensures.columns c.in_ok-reader.ensures.tokens c.in_ok-reader.ensures.kinds)

pub loop-line-preserved : goal.loop-line-preserved
loop-line-preserved c =
    one_line lines_steps (λ line. line.now) c.args.registry.now (lines c.args.text.now) _ _ _ _ _ c.in-Some.line _ c.in-Some.ensures.steps refl (line_is_read _ _ _ _ _ c.in_default.is c.in_ok-cause.ensures) c.loop-line.invariant

pub overflow_add-number : goal.overflow_add-number
overflow_add-number c =
    let w : c.loop-line.number < length c.args.text.now =
    omega (arith, line_within lines_steps (λ line. line.now) c.args.registry.now (lines c.args.text.now) c.loop-line.line-iterator c.next.new.self c.loop-line.number c.loop-line.number c.loop-line.reader c.in-Some.line c.in-Some.ensures.steps c.loop-line.invariant, length-lines c.args.text.now) in
    search rules

pub returns-in-Some-2-clause-bad : goal.returns-in-Some-2-clause-bad
returns-in-Some-2-clause-bad c = λ bad e bytes a.
    let P : BadLine → Type 0 = λ b. FirstTextFault c.args.registry.now bytes b.line (text_cause_of b.cause) in
    subst P (told_bad _ _ e)
    (bad_line lines_steps (λ line. line.now) c.args.registry.now (lines c.args.text.now) c.loop-line.line-iterator c.next.new.self c.loop-line.number _ c.loop-line.reader c.in-Some.line bytes _ c.in-Some.ensures.steps refl
    (line_refused _ _ _ _ _ _ c.in-Some-2.is c.in_ok-cause.ensures) a c.loop-line.invariant)

pub returns-clause-ok : goal.returns-clause-ok
returns-clause-ok c = λ name bytes e.
    let h = all_lines lines_steps (λ line. line.now) c.args.registry.now (lines c.args.text.now) _ _ c.loop-line.number c.loop-line.number c.loop-line.reader c.in-None.ensures.steps c.loop-line.invariant in
    let P : List (List ℕ) → Type 0 = λ ls. HasRead c.args.registry.now ls [] c.loop-line.number c.loop-line.reader in
    text_is _ name bytes _ _ _ (subst P (sym e) h) refl c.in_ok-finish.ensures.tokens c.in_ok-finish.ensures.structs
