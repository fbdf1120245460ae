use Rattle.std.proofs.Common.{sym, ◌∙◌, arith}
use Rattle.mt_eval.proofs.Spanned.{found_listed}
use Rattle.mt_eval.proofs.spans.has_row.Goals as goal

pub returns-then-begin-end : goal.returns-then-begin-end
returns-then-begin-end c =
    let found = rw c.text.ensures at (found_listed c.args.texts.now c.text.result c.binary_search.result c.binary_search.ensures.position c.requires) in
    ((λ t. (omega (arith, c.if-begin-end.true, c.begin.ensures, c.end.ensures), found.0 (sym c.is_ok.ensures.value ∙ t))), (λ h. c.is_ok.ensures.value ∙ found.1 h.1))
