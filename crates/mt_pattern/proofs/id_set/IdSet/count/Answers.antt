use Rattle.std.proofs.Common.{◌∙◌, sym, ap, length}
use Rattle.mt_pattern.proofs.Bits.{length-marks}
use Rattle.mt_pattern.proofs.id_set.IdSet.count.Goals as goal

pub returns : goal.returns
returns c = sym (length-marks c.self.inside.words 0 c.self.inside.count) ∙ ap length c.self.view_is
