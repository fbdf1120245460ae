use Rattle.mt_decode_laws.proofs.LiveTexts.{texts_numbered}
use Rattle.mt_decode_laws.proofs.live_texts_are_numbered.Goals as goal

pub returns : goal.returns
returns c = texts_numbered
