use Rattle.mt_vertical.proofs.OneText.{no_text_with_fault}
use Rattle.mt_vertical.proofs.laws.no_text_with_fault.Goals as goal

pub returns : goal.returns
returns c = no_text_with_fault
