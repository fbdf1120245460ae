use Rattle.mt_query_laws.proofs.Verdicts.{answer_means}
use Rattle.mt_query_laws.proofs.meanings.answer_is_meant.Goals as goal

pub returns : goal.returns
returns c = answer_means
