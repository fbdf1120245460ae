use Rattle.mt_corpus_laws.proofs.Local.{kept_local}
use Rattle.mt_corpus_laws.proofs.kept_are_local.Goals as goal

pub returns : goal.returns
returns c = kept_local
