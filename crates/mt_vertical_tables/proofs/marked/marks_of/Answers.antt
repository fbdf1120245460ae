use Rattle.std.proofs.Common.{eqb, arith, w8}
use lib.Lanes.{chunk}
use Rattle.std.proofs.lemmas.Simd.{length-chunk, bitmask_splat}
use Rattle.mt_vertical_tables.proofs.Marks.{marked}
use Rattle.mt_vertical_tables.proofs.marked.marks_of.Goals as goal

pub returns : goal.returns
returns c =
    let bytes = c.args.bytes.now in
    marked c.args.byte bytes _ c.requires (bitmask_splat w8 eqb (chunk 0 32 bytes) 32 c.args.byte (length-chunk 0 32 bytes (omega (arith, c.requires))) (omega arith))
