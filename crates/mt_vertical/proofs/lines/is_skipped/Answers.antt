use Rattle.std.proofs.Common.{◌≡◌, true, false, sym}
use Rattle.mt_vertical.proofs.lines.is_skipped.Goals as goal
use Rattle.mt_vertical.proofs.LineKinds.{only_third}

pub returns : goal.returns
returns c = only_third _ _ (sym c.if-are_spaces.ensures) (λ e. let h : false ≡ true = c.if-encloses.ensures.1 e in cc) c.encloses-2.ensures
