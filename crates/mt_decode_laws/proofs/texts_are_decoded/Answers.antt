use Rattle.mt_decode_laws.proofs.Texts.{texts_decoded}
use Rattle.mt_decode_laws.proofs.texts_are_decoded.Goals as goal

pub returns : goal.returns
returns c = texts_decoded
