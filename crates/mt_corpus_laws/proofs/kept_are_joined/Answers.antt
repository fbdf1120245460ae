use Rattle.mt_corpus_laws.proofs.Joined.{kept_joined}
use Rattle.mt_corpus_laws.proofs.kept_are_joined.Goals as goal

pub returns : goal.returns
returns c = kept_joined c.kept_are_told.ensures c.live_texts_are_numbered.ensures
