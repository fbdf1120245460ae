use Rattle.std.proofs.Common.{ℕ, List, refl, ◌∙◌, ap, subst}
use Rattle.std.specs.Str.Lines.{lines}
use Rattle.mt_file_spec.specs.Vertical.{text_lines}
use Rattle.mt_vertical.proofs.SoFar.{HasRead, line_is_read, nothing_read, line_read, text_is}
use Rattle.mt_vertical.proofs.ValidTexts.{valid_text}
use Rattle.mt_vertical.proofs.read_text.Goals as goal

pub loop-line-init : goal.loop-line-init
loop-line-init c =
    nothing_read _ _ _ _ (c.into_iter-line-iterator.ensures.into_iter_gives ∙ c.new-line-items.ensures.value ∙ ap lines c.without_mark.ensures) c.in_ok-reader.ensures.columns
    c.in_ok-reader.ensures.tokens c.in_ok-reader.ensures.kinds

pub loop-line-preserved : goal.loop-line-preserved
loop-line-preserved c = line_read _ _ _ _ _ _ _ _ _ c.loop-line.invariant c.in-Some.ensures.steps refl (line_is_read _ _ _ _ _ c.in_default.is c.in_ok-cause.ensures)

pub returns-clause-ok : goal.returns-clause-ok
returns-clause-ok c =
    let P : List (List ℕ) → Type 0 = λ rest. HasRead c.args.registry.now (text_lines c.args.bytes.now) rest c.loop-line.number c.loop-line.reader in
    text_is _ _ _ _ _ _ (subst P c.in-None.ensures.steps.0 c.loop-line.invariant) c.in_ok-finish.ensures.named c.in_ok-finish.ensures.tokens c.in_ok-finish.ensures.structs

pub returns-clause-valid : goal.returns-clause-valid
returns-clause-valid c = valid_text _ _ _ _ c.requires.name (returns-clause-ok c)
