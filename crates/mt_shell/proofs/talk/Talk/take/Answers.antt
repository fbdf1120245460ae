use Rattle.std.proofs.Common.{◌++◌}
use Rattle.mt_shell.proofs.Runs.{nothing_done}
use Rattle.mt_shell.proofs.talk.Talk.take.Goals as goal

pub returns-in-Ok-clause-on : goal.returns-in-Ok-clause-on
returns-in-Ok-clause-on g c = rw (c.in-Ok.ensures.ok, c.requires.1.1.1.1.1.1.1.0) at c.answer.ensures.on

pub returns-in-Ok-clause-over : goal.returns-in-Ok-clause-over
returns-in-Ok-clause-over g c = rw (c.in-Ok.ensures.ok, c.requires.1.1.1.1.1.1.1.0) at c.answer.ensures.over

pub returns-in-Ok-clause-part : goal.returns-in-Ok-clause-part
returns-in-Ok-clause-part g c = rw (c.in-Ok.ensures.ok, c.requires.1.1.1.1.1.1.1.0) at c.answer.ensures.part

pub returns-in-Ok-clause-rest : goal.returns-in-Ok-clause-rest
returns-in-Ok-clause-rest g c = rw (c.in-Ok.ensures.ok, c.requires.1.1.1.1.1.1.1.0) at c.answer.ensures.rest

pub returns-in-Err-clause-part : goal.returns-in-Err-clause-part
returns-in-Err-clause-part g c = λ written h. nothing_done (c.args.self.now.reader.bytes ++ c.args.piece.now) c.args.self.now.session.state.held _ written h
