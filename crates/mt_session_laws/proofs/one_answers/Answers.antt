use Rattle.mt_session_laws.proofs.Items.{one_answers}
use Rattle.mt_session_laws.proofs.one_answers.Goals as goal

pub returns : goal.returns
returns c = one_answers c.one_meaning.ensures c.steps_keep_valid.ensures
