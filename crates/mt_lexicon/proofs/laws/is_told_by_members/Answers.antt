use Rattle.mt_lexicon.proofs.Lexicons.{told_by_members}
use Rattle.mt_lexicon.proofs.laws.is_told_by_members.Goals as goal

pub returns : goal.returns
returns c = told_by_members
