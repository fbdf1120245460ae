use Rattle.mt_segment_laws.proofs.Standing.{stand_for_values}
use Rattle.mt_segment_laws.proofs.numbers_stand_for_values.Goals as goal

pub returns : goal.returns
returns c = stand_for_values
