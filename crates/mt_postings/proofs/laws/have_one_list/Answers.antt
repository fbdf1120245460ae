use Rattle.mt_postings.proofs.Coding.{one_list}
use Rattle.mt_postings.proofs.laws.have_one_list.Goals as goal

pub returns : goal.returns
returns c = one_list
