use Rattle.mt_counts.proofs.Numbering.{distinct_as}
use Rattle.mt_counts.proofs.names.Names.len.Goals as goal

pub returns-clause-distinct : goal.returns-clause-distinct
returns-clause-distinct c = rw (← c.self.view_is) (distinct_as c.self.inside.values.keys c.len.ensures.unique)
