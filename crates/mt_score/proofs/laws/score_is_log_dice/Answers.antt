use Rattle.mt_score.proofs.Logarithm.{log_dice}
use Rattle.mt_score.proofs.laws.score_is_log_dice.Goals as goal

pub returns : goal.returns
returns c = log_dice
