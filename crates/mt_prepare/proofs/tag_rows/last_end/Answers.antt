use Rattle.std.proofs.Common.{◌-◌, ◌<◌, length, arith, subst}
use Rattle.mt_text_spec.specs.Texts as spec
use Rattle.mt_prepare.specs.TagRows.{IsFirstFrom}
use Rattle.mt_prepare.proofs.LastEnds.{last_is}
use Rattle.mt_prepare.proofs.tag_rows.last_end.Goals as goal

pub returns : goal.returns
returns c = λ begin end l is.
    let first = subst (λ (key : spec.Span). IsFirstFrom c.args.spans.now key c.first_from-place.result) c.new.ensures c.first_from-place.ensures in
    let within : c.first_from-place.result - 1 < length c.args.spans.now = omega (arith, first.within, c.if-place-from.false) in
    rw c.end.ensures (last_is c.args.spans.now c.args.text c.args.at c.first_from-place.result begin end c.index-spans-place.result c.requires.sorted first l is within c.index-spans-place.is)
