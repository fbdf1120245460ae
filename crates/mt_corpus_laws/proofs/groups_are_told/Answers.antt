use Rattle.mt_corpus_laws.proofs.Told.{groups_told}
use Rattle.mt_corpus_laws.proofs.groups_are_told.Goals as goal

pub returns : goal.returns
returns c = groups_told c.texts_are_decoded.ensures
