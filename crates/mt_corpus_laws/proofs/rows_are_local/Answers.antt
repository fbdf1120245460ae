use Rattle.mt_corpus_laws.proofs.Local.{rows_local}
use Rattle.mt_corpus_laws.proofs.rows_are_local.Goals as goal

pub returns : goal.returns
returns c = rows_local
