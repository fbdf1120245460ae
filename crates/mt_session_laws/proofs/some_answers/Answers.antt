use Rattle.mt_session_laws.proofs.Items.{some_answers}
use Rattle.mt_session_laws.proofs.some_answers.Goals as goal

pub returns : goal.returns
returns c = some_answers c.some_meaning.ensures c.steps_keep_valid.ensures
