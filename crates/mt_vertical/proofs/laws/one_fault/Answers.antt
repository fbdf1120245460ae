use Rattle.mt_vertical.proofs.OneText.{one_fault}
use Rattle.mt_vertical.proofs.laws.one_fault.Goals as goal

pub returns : goal.returns
returns c = one_fault
