use Rattle.mt_decode_laws.proofs.Taken.{images_decoded}
use Rattle.mt_decode_laws.proofs.images_are_decoded.Goals as goal

pub returns : goal.returns
returns c = images_decoded
