use Rattle.std.proofs.Common.{arith, subst}
use Rattle.mt_text_spec.specs.Texts as spec
use Rattle.mt_prepare.specs.TagRows.{IsFirstFrom}
use Rattle.mt_prepare.proofs.Spans.{is_there}
use Rattle.mt_prepare.proofs.tag_rows.longer_end.Goals as goal
use Rattle.mt_prepare.proofs.tag_rows.longer_end.Goals.{else-text-via-then-text+else-begin-at, else-text-via-else-text}

pub returns-else-text-clause-none : goal.returns-else-text-clause-none
returns-else-text-clause-none c = λ end s.
    let first = subst (λ (key : spec.Span). IsFirstFrom c.args.spans.now key c.first_from-place.result) c.new-key.ensures c.first_from-place.ensures in
    let p = is_there c.args.spans.now c.args.text c.args.at end c.first_from-place.result c.index-spans-place.result c.requires.sorted first s c.index-spans-place.is in
    elim c.else-text.branch [ else-text-via-then-text+else-begin-at w ↦ omega (arith, p.1, p.2) | else-text-via-else-text w ↦ omega (arith, p.1, p.2) ]
