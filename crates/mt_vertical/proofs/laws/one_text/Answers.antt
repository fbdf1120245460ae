use Rattle.mt_vertical.proofs.OneText.{one_text}
use Rattle.mt_vertical.proofs.laws.one_text.Goals as goal

pub returns : goal.returns
returns c = one_text
