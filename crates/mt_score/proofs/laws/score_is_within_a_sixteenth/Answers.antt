use Rattle.mt_score.proofs.Order.{within_a_sixteenth}
use Rattle.mt_score.proofs.laws.score_is_within_a_sixteenth.Goals as goal

pub returns : goal.returns
returns c = within_a_sixteenth
