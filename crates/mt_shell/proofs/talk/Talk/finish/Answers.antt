use Rattle.mt_shell.proofs.talk.Talk.finish.Goals as goal

pub returns-clause-on : goal.returns-clause-on
returns-clause-on g c = rw c.end.ensures at c.answer.ensures.on

pub returns-clause-over : goal.returns-clause-over
returns-clause-over g c = rw c.end.ensures at c.answer.ensures.over

pub returns-clause-part : goal.returns-clause-part
returns-clause-part g c = rw c.end.ensures at c.answer.ensures.part

pub returns-clause-rest : goal.returns-clause-rest
returns-clause-rest g c = rw c.end.ensures at c.answer.ensures.rest
