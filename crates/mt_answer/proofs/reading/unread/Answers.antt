use Rattle.mt_cql.specs.Read.{cause_seen}
use Rattle.mt_answer.proofs.Declines.{great, faulty, unknown}
use Rattle.mt_answer.proofs.reading.unread.Goals as goal

pub returns-in-TooLarge : goal.returns-in-TooLarge
returns-in-TooLarge c = λ registry answered. great registry c.args.cql.now (rw c.in-TooLarge.is at answered)

pub returns-in-Syntax : goal.returns-in-Syntax
returns-in-Syntax c = λ registry answered. faulty registry c.args.cql.now c.in-Syntax.at (cause_seen c.in-Syntax.cause) (rw c.in-Syntax.is at answered)

pub returns-in-Unknown : goal.returns-in-Unknown
returns-in-Unknown c = λ registry answered. unknown registry c.args.cql.now c.in-Unknown.at c.name_at.result.now c.name_at.ensures (rw c.in-Unknown.is at answered)
