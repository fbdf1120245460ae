use Rattle.mt_generate_laws.proofs.ValidTexts.{valid_text}
use Rattle.mt_generate_laws.proofs.laws.valid_texts.Goals as goal

pub returns : goal.returns
returns c = valid_text
