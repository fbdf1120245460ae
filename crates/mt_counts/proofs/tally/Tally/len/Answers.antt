use Rattle.mt_counts.proofs.Entries.{once_of_distinct, pair_passes}
use Rattle.mt_counts.proofs.tally.Tally.len.Goals as goal

pub returns-clause-once : goal.returns-clause-once
returns-clause-once c = rw (← c.self.view_is) (once_of_distinct _ c.self.inside.counts.entries (λ (k : _). pair_passes k.0 k.1) c.len.ensures.unique)
