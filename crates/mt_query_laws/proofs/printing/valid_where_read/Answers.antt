use Rattle.mt_query_laws.proofs.PrintedQueries.{printed_read}
use Rattle.mt_query_laws.proofs.PrintedDepth.{read_valid}
use Rattle.mt_query_laws.proofs.printing.valid_where_read.Goals as goal

pub returns : goal.returns
returns c = record { read = printed_read; valid = read_valid }
