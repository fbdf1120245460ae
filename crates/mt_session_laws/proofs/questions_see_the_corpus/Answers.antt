use Rattle.mt_session_laws.proofs.Items.{questions_see}
use Rattle.mt_session_laws.proofs.questions_see_the_corpus.Goals as goal

pub returns : goal.returns
returns c = questions_see
