use Rattle.mt_vertical.proofs.ValidTexts.{valid_text}
use Rattle.mt_vertical.proofs.laws.valid_texts.Goals as goal

pub returns : goal.returns
returns c = valid_text
