use Rattle.mt_session_laws.proofs.Meanings.{refused_keep}
use Rattle.mt_session_laws.proofs.refused_keep.Goals as goal

pub returns : goal.returns
returns c = refused_keep
