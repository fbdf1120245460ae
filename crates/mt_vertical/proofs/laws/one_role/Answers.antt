use Rattle.mt_vertical.proofs.OneRole.{plays_once}
use Rattle.mt_vertical.proofs.laws.one_role.Goals as goal

pub returns : goal.returns
returns c = plays_once
