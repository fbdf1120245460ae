use Rattle.mt_match_laws.proofs.One.{kept_one}
use Rattle.mt_match_laws.proofs.laws.kept_are_one.Goals as goal

pub returns : goal.returns
returns c = kept_one
