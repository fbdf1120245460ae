use Rattle.mt_match_laws.proofs.One.{lists_one}
use Rattle.mt_match_laws.proofs.laws.lists_are_one.Goals as goal

pub returns : goal.returns
returns c = lists_one
