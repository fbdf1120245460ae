use Rattle.mt_eval_laws.proofs.NoMore.{no_more}
use Rattle.mt_eval_laws.proofs.no_more_than_all.Goals as goal

pub returns : goal.returns
returns c = no_more
