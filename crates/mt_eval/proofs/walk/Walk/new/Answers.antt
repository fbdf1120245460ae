use Rattle.std.proofs.Common.{ℕ, ◌+◌, ◌≤◌, List, length, subst}
use Rattle.mt_eval.specs.Walks.{due, due_of}
use Rattle.mt_eval.proofs.Walked.{reading}
use Rattle.mt_eval.proofs.walk.Walk.new.Goals as goal

pub returns-clause-due : goal.returns-clause-due
returns-clause-due g c = λ looks.
    subst (λ (list : List ℕ). c.next-next.new.steps + due looks c.next-next.result c.next-next.new.self ≤ c.args.steps.now + due_of looks (length list)) c.cursor-rest.ensures.all
    (reading looks c.args.steps.now c.next-next.new.steps c.cursor-rest.result c.next-next.result c.next-next.new.self c.next-next.ensures.given c.next-next.ensures.ticks)
