use Rattle.mt_score.proofs.Order.{monotone}
use Rattle.mt_score.proofs.laws.score_is_monotone.Goals as goal

pub returns : goal.returns
returns c = monotone
