use Rattle.mt_script.proofs.OneReading.{one_reading}
use Rattle.mt_script.proofs.laws.one_reading.Goals as goal

pub returns : goal.returns
returns c = one_reading
