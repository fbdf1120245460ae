use Rattle.mt_triples.proofs.Existing.{have_tables}
use Rattle.mt_triples.proofs.have_counts.Goals as goal

pub returns : goal.returns
returns c = have_tables c.have_kept.ensures c.sums_are_counts.ensures c.instances_are_counted.ensures
