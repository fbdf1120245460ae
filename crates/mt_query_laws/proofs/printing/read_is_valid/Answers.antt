use Rattle.mt_query_laws.proofs.PrintedDepth.{means_valid}
use Rattle.mt_query_laws.proofs.printing.read_is_valid.Goals as goal

pub returns : goal.returns
returns c = means_valid
