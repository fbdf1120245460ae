use Rattle.mt_word_sketch_laws.proofs.Somes.{sketches}
use Rattle.mt_word_sketch_laws.proofs.have_sketches.Goals as goal

pub returns : goal.returns
returns c = sketches c.have_counts.ensures c.pairs_are_within.ensures c.there_is_a_score.ensures
