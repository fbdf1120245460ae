use Rattle.mt_lexicon.proofs.Renumbered.{in_turn}
use Rattle.mt_lexicon.proofs.laws.renumber_in_turn.Goals as goal

pub returns : goal.returns
returns c = in_turn
