use Rattle.std.proofs.Common.{refl}
use Rattle.mt_pattern.proofs.Bits.{reads}
use Rattle.mt_pattern.proofs.id_set.IdSet.has.Goals as goal

pub returns : goal.returns
returns c = reads c.self.inside.words c.self.inside.words c.self.inside.count c.args.id c.word.result c.args.self.now c.self.invariant.0 c.self.view_is refl c.word.ensures.is
