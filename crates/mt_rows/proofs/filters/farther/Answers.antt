use Rattle.std.proofs.lemmas.Bool.Decides.{not_from_Decides}
use Rattle.mt_rows.proofs.Sweeps.{farther_next, farther_stays}
use Rattle.mt_rows.proofs.filters.farther.Goals as goal

pub returns-then-reaches : goal.returns-then-reaches
returns-then-reaches c = λ operand n order here far. farther_stays operand order c.args.span n c.args.best.now here far (c.reaches.ensures.0 c.if-reaches.true)

pub returns : goal.returns
returns c = λ operand n order here far. farther_next operand order c.args.span n c.args.best.now here far (not_from_Decides c.reaches.result c.reaches.ensures c.if-reaches.false)
