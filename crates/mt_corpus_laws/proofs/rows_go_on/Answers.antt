use Rattle.mt_corpus_laws.proofs.Joined.{rows_on}
use Rattle.mt_corpus_laws.proofs.rows_go_on.Goals as goal

pub returns : goal.returns
returns c = rows_on c.no_more_than_all.ensures
