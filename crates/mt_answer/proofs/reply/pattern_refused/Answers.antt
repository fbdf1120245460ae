use Rattle.mt_session_spec.specs.Refusals.{pattern_refused_line}
use Rattle.mt_session_spec.specs.Answers.{Refused}
use Rattle.mt_answer.proofs.Asks.{in_line, in_none}
use Rattle.mt_answer.proofs.reply.pattern_refused.Goals as goal

pub returns-in-Ok : goal.returns-in-Ok
returns-in-Ok c = in_line c.in-Ok.line (pattern_refused_line c.args.number) c.in-Ok.ensures

pub returns-in-Err : goal.returns-in-Err
returns-in-Err c = in_none (Refused (pattern_refused_line c.args.number))
