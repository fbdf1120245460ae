use Rattle.mt_triples.proofs.Existing.{have_all}
use Rattle.mt_triples.proofs.have_instances.Goals as goal

pub returns : goal.returns
returns c = have_all c.have_kept.ensures
