use Rattle.std.proofs.Common.{arith, ap, length}
use Rattle.std.specs.Prelude.{string_bytes}
use Rattle.mt_base.proofs.Blocks.{length-pieces}
use Rattle.mt_base.proofs.strings.Strings.get.Goals as goal

pub piece-requires : goal.piece-requires
piece-requires c = record {
  ends = rw (c.as_str.ensures.value, c.as_slice.ensures.value) c.self.invariant;
  place = omega (arith, length-pieces (string_bytes c.self.inside.block) 0 c.self.inside.ends.items, ap length c.self.view_is, ap length c.as_slice.ensures.value);
}

pub returns : goal.returns
returns c = rw (← c.self.view_is, ← c.as_str.ensures.value, ← c.as_slice.ensures.value) c.piece.ensures
