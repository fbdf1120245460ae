use Rattle.mt_word_sketch_laws.proofs.Frequent.{within}
use Rattle.mt_word_sketch_laws.proofs.pairs_are_within.Goals as goal

pub returns : goal.returns
returns c = within
