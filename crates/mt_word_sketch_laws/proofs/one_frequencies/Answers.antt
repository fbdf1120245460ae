use Rattle.mt_word_sketch_laws.proofs.Frequent.{one_set}
use Rattle.mt_word_sketch_laws.proofs.one_frequencies.Goals as goal

pub returns : goal.returns
returns c = one_set c.one_count.ensures c.one_unary_count.ensures
