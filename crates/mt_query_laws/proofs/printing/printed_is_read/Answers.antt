use Rattle.mt_query_laws.proofs.PrintedQueries.{printed_means}
use Rattle.mt_query_laws.proofs.printing.printed_is_read.Goals as goal

pub returns : goal.returns
returns c = printed_means
