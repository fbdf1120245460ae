use Rattle.mt_corpus_laws.proofs.Joined.{rows_joined}
use Rattle.mt_corpus_laws.proofs.rows_are_joined.Goals as goal

pub returns : goal.returns
returns c = rows_joined c.rows_are_told.ensures c.live_texts_are_numbered.ensures
