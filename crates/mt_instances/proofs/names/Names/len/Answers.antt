use Rattle.mt_counts.proofs.Numbering.{distinct_in}
use Rattle.mt_instances.proofs.names.Names.len.Goals as goal

pub returns-clause-distinct : goal.returns-clause-distinct
returns-clause-distinct c = rw (← c.self.view_is) (distinct_in c.self.inside.values.keys c.len.ensures.unique)
