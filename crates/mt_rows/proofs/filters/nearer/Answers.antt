use Rattle.std.proofs.lemmas.Bool.Decides.{not_from_Decides}
use Rattle.mt_rows.proofs.Sweeps.{nearer_next, nearer_stays}
use Rattle.mt_rows.proofs.filters.nearer.Goals as goal

pub returns-then-ends_by : goal.returns-then-ends_by
returns-then-ends_by c = λ operand n order here near. nearer_stays operand order c.args.span n c.args.best.now here near (c.ends_by.ensures.0 c.if-ends_by.true)

pub returns : goal.returns
returns c = λ operand n order here near. nearer_next operand order c.args.span n c.args.best.now here near (not_from_Decides c.ends_by.result c.ends_by.ensures c.if-ends_by.false)
