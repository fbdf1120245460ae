use Rattle.mt_match_laws.proofs.One.{rows_one}
use Rattle.mt_match_laws.proofs.laws.rows_are_one.Goals as goal

pub returns : goal.returns
returns c = rows_one
