-- The rows of the entries so far were put into the block.
use Rattle.std.proofs.Common.{◌≡◌, ◌+◌, ◌≤◌, length, take}
use Rattle.mt_rows.specs.Appends.{Appends}
use Rattle.mt_shapes.specs.Blocks.{bare_rows}
use Rattle.mt_shapes.specs.Tables.{IsRowBelow}
use Rattle.mt_shapes.proofs.blocks.put_rows.Given as goal

abbrev pub invariant-loop-entry : goal.invariant-loop-entry
invariant-loop-entry l =
    record {
      width : length l.block ≡ length l.initial.block;
      near : l.before ≤ l.count;
      far : l.count ≤ l.before + l.entry-index;
      put : Appends (IsRowBelow l.entries l.text l.begin l.entry-index) (length l.entries) (bare_rows (take l.before l.initial.block)) (bare_rows (take l.count l.block));
    }
