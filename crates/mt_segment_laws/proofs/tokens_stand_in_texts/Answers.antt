use Rattle.mt_segment_laws.proofs.InTexts.{tokens_stand}
use Rattle.mt_segment_laws.proofs.tokens_stand_in_texts.Goals as goal

pub returns : goal.returns
returns c = tokens_stand
