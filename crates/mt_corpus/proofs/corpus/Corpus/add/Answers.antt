use Rattle.mt_corpus.proofs.Calls.{calls_halfway}
use Rattle.mt_corpus.proofs.corpus.Corpus.add.Goals as goal

pub returns-in-Err-clause-calls : goal.returns-in-Err-clause-calls
returns-in-Err-clause-calls g c = λ t are. calls_halfway _ _ _ _ _ (c.in-Err.ensures.calls t are)
