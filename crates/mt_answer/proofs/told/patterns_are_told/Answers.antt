use Rattle.mt_answer.proofs.Blames.{told}
use Rattle.mt_answer.proofs.told.patterns_are_told.Goals as goal

pub returns : goal.returns
returns c = told
