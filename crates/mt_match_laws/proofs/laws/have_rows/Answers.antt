use Rattle.mt_match_laws.proofs.Listed.{rows_listed}
use Rattle.mt_match_laws.proofs.laws.have_rows.Goals as goal

pub returns : goal.returns
returns c = rows_listed
