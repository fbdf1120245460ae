use Rattle.mt_eval.proofs.Walked.{reading}
use Rattle.mt_eval.proofs.walk.pass.Goals as goal

pub returns-clause-due : goal.returns-clause-due
returns-clause-due g c = λ looks. reading looks c.args.steps.now c.next-walk.new.steps c.args.walk.now.rest c.next-walk.result c.next-walk.new.self c.next-walk.ensures.given c.next-walk.ensures.ticks
