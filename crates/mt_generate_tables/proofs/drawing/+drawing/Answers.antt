use Rattle.std.proofs.Common.{◌+◌, ◌-◌, ◌/◌, ◌∙◌, sym, refl, arith}
use Rattle.std.proofs.lemmas.Result.{IfOk-at_ok, IfOk-weaker}
use Rattle.mt_generate_tables.specs.Coded.{AreDrawn, all_codes}
use Rattle.mt_generate_tables.proofs.Codes.{codes_of_both, drawn_together}
use Rattle.mt_generate_tables.proofs.drawing.+drawing.Goals as goal

pub put_together-requires : goal.put_together-requires
put_together-requires g t c =
    let half = c.args.tokens / 2 in
    let one = IfOk-at_ok (λ d. AreDrawn c.args.seed c.args.from half (all_codes d.parts) d.marks.items) c.in_ok-one.was c.join-one.ensures.first in
    let other = IfOk-at_ok (λ d. AreDrawn c.args.seed (c.args.from + half) (c.args.tokens - half) (all_codes d.parts) d.marks.items) c.in_ok-other.was c.join-one.ensures.second in
    other.long ∙ sym one.long

pub returns : goal.returns
returns g t c =
    let half = c.args.tokens / 2 in
    let one = IfOk-at_ok (λ d. AreDrawn c.args.seed c.args.from half (all_codes d.parts) d.marks.items) c.in_ok-one.was c.join-one.ensures.first in
    let other = IfOk-at_ok (λ d. AreDrawn c.args.seed (c.args.from + half) (c.args.tokens - half) (all_codes d.parts) d.marks.items) c.in_ok-other.was c.join-one.ensures.second in
    IfOk-weaker c.put_together.result _ (λ d. AreDrawn c.args.seed c.args.from c.args.tokens (all_codes d.parts) d.marks.items)
    (λ d told. drawn_together c.args.seed c.args.from half (c.args.from + half) (c.args.tokens - half) c.args.tokens (all_codes c.in_ok-one.field-0.parts) (all_codes c.in_ok-other.field-0.parts) (all_codes d.parts)
    c.in_ok-one.field-0.marks.items c.in_ok-other.field-0.marks.items d.marks.items refl (omega arith) one other (codes_of_both c.in_ok-one.field-0.parts c.in_ok-other.field-0.parts d.parts told.0) told.1)
    c.put_together.ensures
