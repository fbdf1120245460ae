use Rattle.std.proofs.Common.{ap}
use Rattle.mt_cql.specs.Shape.{shape}
use Rattle.mt_totals.proofs.alone.is_token.Goals as goal

pub returns-in-Token : goal.returns-in-Token
returns-in-Token c = λ yes. (c.in-Token.label, _, ap shape c.in-Token.is)
