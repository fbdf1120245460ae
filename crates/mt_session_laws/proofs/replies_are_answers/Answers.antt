use Rattle.mt_session_laws.proofs.Items.{replies_answers}
use Rattle.mt_session_laws.proofs.replies_are_answers.Goals as goal

pub returns : goal.returns
returns c = replies_answers c.one_answers.ensures
