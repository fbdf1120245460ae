use Rattle.std.proofs.Common.{arith, ap, length}
use Rattle.std.specs.Prelude.{string_bytes}
use Rattle.mt_base.proofs.Blocks.{length-pieces}
use Rattle.mt_base.proofs.strings.Strings.len.Goals as goal

pub returns : goal.returns
returns c = omega (arith, length-pieces (string_bytes c.self.inside.block) 0 c.self.inside.ends.items, ap length c.self.view_is, c.len.ensures)
