use Rattle.std.proofs.Common.{◌≡◌, true, false}
use Rattle.mt_vertical.proofs.lines.encloses.Goals as goal
use Rattle.mt_vertical.proofs.LineKinds.{encloses_gives, encloses_back, begins_else}

pub returns-in-Some : goal.returns-in-Some
returns-in-Some c = (
  λ t. encloses_gives _ _ _ c.in-Some.ensures.cases.0 c.in-Some.ensures.cases.1 (c.is_closed-in-Some.ensures.0 t),
  λ e. c.is_closed-in-Some.ensures.1 (encloses_back _ _ _ c.in-Some.ensures.cases.1 e),
)

pub returns-in-None : goal.returns-in-None
returns-in-None c = (λ t. let h : false ≡ true = t in cc, λ e. absurd (begins_else _ _ c.in-None.ensures.cases e))
