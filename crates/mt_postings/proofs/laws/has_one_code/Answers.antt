use Rattle.mt_postings.proofs.Coding.{one_code}
use Rattle.mt_postings.proofs.laws.has_one_code.Goals as goal

pub returns : goal.returns
returns c = one_code
