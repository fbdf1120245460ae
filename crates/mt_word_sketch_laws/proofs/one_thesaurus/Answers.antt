use Rattle.mt_word_sketch_laws.proofs.Ones.{thesauri_one}
use Rattle.mt_word_sketch_laws.proofs.one_thesaurus.Goals as goal

pub returns : goal.returns
returns c = thesauri_one c.one_frequencies.ensures
