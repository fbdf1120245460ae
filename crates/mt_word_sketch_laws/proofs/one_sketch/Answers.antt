use Rattle.mt_word_sketch_laws.proofs.Ones.{sketches_one}
use Rattle.mt_word_sketch_laws.proofs.one_sketch.Goals as goal

pub returns : goal.returns
returns c = sketches_one c.one_frequencies.ensures c.score_is_unique.ensures
