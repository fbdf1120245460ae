use Rattle.mt_query_laws.proofs.Verdicts.{one_query}
use Rattle.mt_query_laws.proofs.meanings.one_reading.Goals as goal

pub returns : goal.returns
returns c = one_query
