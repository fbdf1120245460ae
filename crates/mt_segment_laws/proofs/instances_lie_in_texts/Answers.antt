use Rattle.mt_segment_laws.proofs.InTexts.{instances_lie}
use Rattle.mt_segment_laws.proofs.instances_lie_in_texts.Goals as goal

pub returns : goal.returns
returns c = instances_lie
