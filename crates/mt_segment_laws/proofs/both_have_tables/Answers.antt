use Rattle.mt_segment_laws.proofs.Joined.{both_have}
use Rattle.mt_segment_laws.proofs.both_have_tables.Goals as goal

pub returns : goal.returns
returns c = both_have
