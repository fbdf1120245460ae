use Rattle.std.proofs.Common.{arith}
use Rattle.mt_vertical.proofs.attrs.behind.Goals as goal
use Rattle.mt_vertical.proofs.Utf8.{cut_first}

pub split_at-requires : goal.split_at-requires
split_at-requires c = cut_first _ _ c.in_ok-first.first.now c.utf8.text c.as_bytes.ensures.value (c.in_ok-first.ensures.value) (omega (arith, c.if-first-byte.true, c.requires))
