use Rattle.mt_postings.proofs.Merging.{told_by_members}
use Rattle.mt_postings.proofs.laws.told_by_members.Goals as goal

pub returns : goal.returns
returns c = told_by_members
