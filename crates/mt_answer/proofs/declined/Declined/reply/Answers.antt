use Rattle.mt_session_spec.specs.Answers.{Refused}
use Rattle.mt_answer.specs.Declines.{declined_line}
use Rattle.mt_answer.proofs.Asks.{in_none}
use Rattle.mt_answer.proofs.declined.Declined.reply.Goals as goal

pub returns-in-NoMemory : goal.returns-in-NoMemory
returns-in-NoMemory c = in_none (Refused (declined_line c.args.self.now))
