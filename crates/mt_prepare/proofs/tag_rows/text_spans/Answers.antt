use Rattle.std.proofs.Common.{subst}
use Rattle.mt_text_spec.specs.Texts as spec
use Rattle.mt_prepare.specs.TagRows.{IsFirstFrom}
use Rattle.mt_prepare.proofs.Spans.{in_turn}
use Rattle.mt_prepare.proofs.tag_rows.text_spans.Goals as goal

pub returns-clause-order : goal.returns-clause-order
returns-clause-order c =
    in_turn c.args.spans.now c.args.text c.first_from-from.result c.first_from-to.result
    (subst (λ (key : spec.Span). IsFirstFrom c.args.spans.now key c.first_from-from.result) c.new.ensures c.first_from-from.ensures)
    (subst (λ (key : spec.Span). IsFirstFrom c.args.spans.now key c.first_from-to.result) c.new-2.ensures c.first_from-to.ensures)
