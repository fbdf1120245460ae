use Rattle.mt_word_sketch_laws.proofs.Alikes.{thesauri}
use Rattle.mt_word_sketch_laws.proofs.have_thesauri.Goals as goal

pub returns : goal.returns
returns c = thesauri c.have_counts.ensures c.pairs_are_within.ensures c.score_is_unique.ensures c.there_is_a_score.ensures
