use Rattle.mt_eval_laws.proofs.Listed.{have_in}
use Rattle.mt_eval_laws.proofs.have_rows_in.Goals as goal

pub returns : goal.returns
returns c = have_in c.have_rows.ensures c.rows_are_told.ensures
