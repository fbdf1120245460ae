use Rattle.mt_match_laws.proofs.One.{spans_one}
use Rattle.mt_match_laws.proofs.laws.spans_are_one.Goals as goal

pub returns : goal.returns
returns c = spans_one
