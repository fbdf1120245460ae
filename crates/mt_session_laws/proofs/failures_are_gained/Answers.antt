use Rattle.mt_session_laws.proofs.Items.{failures_gained}
use Rattle.mt_session_laws.proofs.failures_are_gained.Goals as goal

pub returns : goal.returns
returns c = failures_gained
