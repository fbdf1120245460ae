use Rattle.mt_lexicon.proofs.Lexicons.{one_lexicon}
use Rattle.mt_lexicon.proofs.laws.have_one_lexicon.Goals as goal

pub returns : goal.returns
returns c = one_lexicon
