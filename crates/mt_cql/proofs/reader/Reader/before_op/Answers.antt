use Rattle.mt_cql.proofs.Opening.{before_taken}
use Rattle.mt_cql.proofs.reader.Reader.before_op.Goals as goal

pub returns-in-Some : goal.returns-in-Some
returns-in-Some c = before_taken c.args.self.now c.args.state.now c.in-Some.group c.pop.new.self c.opens_operand-opens.result c.in-Some.ensures c.opens_operand-opens.ensures
