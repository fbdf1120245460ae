use Rattle.mt_lexicon.proofs.Lexicons.{a_lexicon}
use Rattle.mt_lexicon.proofs.laws.have_a_lexicon.Goals as goal

pub returns : goal.returns
returns c = a_lexicon
