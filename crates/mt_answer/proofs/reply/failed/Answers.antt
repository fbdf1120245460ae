use Rattle.mt_session_spec.specs.Refusals.{failure_line}
use Rattle.mt_session_spec.specs.Answers.{Refused}
use Rattle.mt_answer.proofs.Asks.{in_line, in_none}
use Rattle.mt_answer.proofs.reply.failed.Goals as goal

pub returns-in-Ok : goal.returns-in-Ok
returns-in-Ok c = in_line c.in-Ok.line (failure_line c.args.file.now) (rw c.as_str.ensures at c.in-Ok.ensures)

pub returns-in-Err : goal.returns-in-Err
returns-in-Err c = in_none (Refused (failure_line c.args.file.now))
