use Rattle.mt_session_laws.proofs.Said.{items_said}
use Rattle.mt_session_laws.proofs.items_are_said.Goals as goal

pub returns : goal.returns
returns c = items_said
