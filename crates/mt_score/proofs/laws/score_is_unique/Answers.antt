use Rattle.mt_score.proofs.Order.{unique}
use Rattle.mt_score.proofs.laws.score_is_unique.Goals as goal

pub returns : goal.returns
returns c = unique
