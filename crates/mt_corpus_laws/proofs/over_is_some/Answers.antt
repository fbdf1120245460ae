use Rattle.mt_corpus_laws.proofs.Over.{over_some}
use Rattle.mt_corpus_laws.proofs.over_is_some.Goals as goal

pub returns : goal.returns
returns c = over_some
