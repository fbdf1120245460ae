use Rattle.std.proofs.Common.{rules, ◌<◌, length, refl, ◌∙◌, ap, subst, arith}
use Rattle.std.specs.Str.Iter.{lines_rest, lines_steps}
use Rattle.std.specs.Str.Lines.{lines}
use Rattle.mt_file_spec.specs.Vertical.{FirstTextFault}
use Rattle.mt_base.proofs.FirstLine.{length-lines}
use Rattle.mt_vertical.specs.Causes.{text_cause_of}
use Rattle.mt_vertical.specs.declared.error.BadLine.{BadLine}
use Rattle.mt_vertical.proofs.LinesRead.{told_bad}
use Rattle.mt_vertical.proofs.Outlines.{none_counted, few_counted, kinds_counted, counts_within, counts_more, counts_bad, outline_is}
use Rattle.mt_vertical.proofs.outline.read_outline.Goals as goal

pub loop-line-init : goal.loop-line-init
loop-line-init c =
    none_counted c.args.registry.now c.args.text.now _ _ (ap lines_rest c.into_iter-line-iterator.ensures.into_iter_gives ∙ c.lines-line-items.ensures.rest) c.in_ok-reader.ensures.tokens c.in_ok-reader.ensures.structs

pub loop-line-preserved : goal.loop-line-preserved
loop-line-preserved c =
    counts_more lines_steps (λ line. line.now) c.args.registry.now (lines c.args.text.now) _ _ _ _ c.loop-line.invariant c.next.new.self c.in-Some.line _ _ _ _ c.in-Some.ensures.steps refl c.in_default.is c.in_ok-cause.ensures

pub overflow_add-number : goal.overflow_add-number
overflow_add-number c =
    let w : c.loop-line.number < length c.args.text.now =
    omega (arith, counts_within lines_steps (λ line. line.now) c.args.registry.now (lines c.args.text.now) _ _ _ _ c.loop-line.invariant c.next.new.self c.in-Some.line c.in-Some.ensures.steps, length-lines c.args.text.now) in
    search rules

pub read_line-requires-clause-few : goal.read_line-requires-clause-few
read_line-requires-clause-few c = few_counted lines_steps (λ line. line.now) c.args.registry.now (lines c.args.text.now) _ _ _ _ c.loop-line.invariant

pub read_line-requires-clause-kinds : goal.read_line-requires-clause-kinds
read_line-requires-clause-kinds c = kinds_counted lines_steps (λ line. line.now) c.args.registry.now (lines c.args.text.now) _ _ _ _ c.loop-line.invariant

pub returns-in-Some-2-clause-bad : goal.returns-in-Some-2-clause-bad
returns-in-Some-2-clause-bad c = λ bad e bytes a.
    let P : BadLine → Type 0 = λ b. FirstTextFault c.args.registry.now bytes b.line (text_cause_of b.cause) in
    subst P (told_bad _ _ e)
    (counts_bad lines_steps (λ line. line.now) c.args.registry.now (lines c.args.text.now) _ _ _ _ c.loop-line.invariant c.next.new.self c.in-Some.line _ _ _ _ _ bytes c.in-Some.ensures.steps refl c.in-Some-2.is c.in_ok-cause.ensures a)

pub returns-clause-ok : goal.returns-clause-ok
returns-clause-ok c = λ name bytes a.
    outline_is lines_steps (λ line. line.now) c.args.registry.now (lines c.args.text.now) _ _ _ _ c.loop-line.invariant _ name bytes _ _ c.in-None.ensures.steps a c.in_ok-finish.ensures.tokens c.in_ok-finish.ensures.structs
