use Rattle.mt_eval_laws.proofs.Kept.{kept_are_told}
use Rattle.mt_eval_laws.proofs.kept_are_told.Goals as goal

pub returns : goal.returns
returns c = kept_are_told (record { stand = c.numbers_stand_for_values.ensures; tokens = c.tokens_stand_in_texts.ensures; instances = c.instances_lie_in_texts.ensures })
