use Rattle.mt_score.proofs.Constants.{in_table}
use Rattle.mt_score.proofs.laws.constants_are_rounded_up.Goals as goal

pub returns : goal.returns
returns c = in_table
