use Rattle.mt_decode_laws.proofs.Marks.{numbers_live}
use Rattle.mt_decode_laws.proofs.numbers_are_live.Goals as goal

pub returns : goal.returns
returns c = numbers_live
