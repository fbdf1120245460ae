use Rattle.mt_eval_laws.proofs.Rows.{rows_are_told}
use Rattle.mt_eval_laws.proofs.rows_are_told.Goals as goal

pub returns : goal.returns
returns c = rows_are_told (record { stand = c.numbers_stand_for_values.ensures; tokens = c.tokens_stand_in_texts.ensures; instances = c.instances_lie_in_texts.ensures })
