use Rattle.mt_session_spec.specs.Refusals.{refusal_line}
use Rattle.mt_session_spec.specs.Answers.{Refused}
use Rattle.mt_answer.specs.Refusals.{refusal_of}
use Rattle.mt_answer.proofs.Asks.{in_line, in_none}
use Rattle.mt_answer.proofs.reply.refused.Goals as goal

pub returns-in-Ok : goal.returns-in-Ok
returns-in-Ok c = in_line c.in-Ok.line (refusal_line (refusal_of c.args.refusal.now)) c.in-Ok.ensures

pub returns-in-Err : goal.returns-in-Err
returns-in-Err c = in_none (Refused (refusal_line (refusal_of c.args.refusal.now)))
