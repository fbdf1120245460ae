use Rattle.mt_score.proofs.Having.{has_score}
use Rattle.mt_score.proofs.laws.there_is_a_score.Goals as goal

pub returns : goal.returns
returns c = has_score
