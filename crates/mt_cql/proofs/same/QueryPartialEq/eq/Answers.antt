use Rattle.mt_cql.specs.Same.{same_query-decides}
use Rattle.mt_cql.proofs.same.QueryPartialEq.eq.Goals as goal

pub returns-clause-equal : goal.returns-clause-equal
returns-clause-equal c = rw c.same_parts.ensures (same_query-decides c.args.self.now c.args.other.now)
