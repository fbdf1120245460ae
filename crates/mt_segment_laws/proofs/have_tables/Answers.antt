use Rattle.mt_segment_laws.proofs.Have.{some_tables}
use Rattle.mt_segment_laws.proofs.have_tables.Goals as goal

pub returns : goal.returns
returns c = some_tables c.have_a_lexicon.ensures
