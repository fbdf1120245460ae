-- The rows of the spans so far were appended.
use Rattle.std.proofs.Common.{◌≡◌, ◌++◌, take}
use Rattle.mt_shapes.specs.Blocks.{bare_rows}
use Rattle.mt_shapes.proofs.blocks.append.Given as goal

abbrev pub invariant-loop-span : goal.invariant-loop-span
invariant-loop-span l = l.out ≡ l.initial.out ++ bare_rows (take l.span-index l.spans)
