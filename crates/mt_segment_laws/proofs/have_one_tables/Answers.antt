use Rattle.mt_segment_laws.proofs.Determined.{one_tables}
use Rattle.mt_segment_laws.proofs.have_one_tables.Goals as goal

pub returns : goal.returns
returns c = one_tables c.have_one_lexicon.ensures c.told_by_members.ensures
