use Rattle.mt_lexicon.proofs.Lexicons.{shortest}
use Rattle.mt_lexicon.proofs.laws.is_shortest.Goals as goal

pub returns : goal.returns
returns c = shortest
