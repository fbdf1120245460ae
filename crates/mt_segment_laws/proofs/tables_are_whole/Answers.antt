use Rattle.mt_segment_laws.proofs.Standing.{are_whole}
use Rattle.mt_segment_laws.proofs.tables_are_whole.Goals as goal

pub returns : goal.returns
returns c = are_whole
