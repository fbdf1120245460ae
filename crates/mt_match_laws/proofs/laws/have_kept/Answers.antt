use Rattle.mt_match_laws.proofs.Keeping.{kept_listed}
use Rattle.mt_match_laws.proofs.laws.have_kept.Goals as goal

pub returns : goal.returns
returns c = kept_listed
