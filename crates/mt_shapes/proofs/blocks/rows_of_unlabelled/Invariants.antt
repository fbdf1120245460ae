-- The rows that begin before `from` were appended or are in the block, and there is room for `left` more.
use Rattle.std.proofs.Common.{◌≡◌, ◌+◌, ◌-◌, ◌*◌, ◌≤◌, ◌++◌, length, take}
use Rattle.mt_rows.specs.Appends.{Appends, Begins}
use Rattle.mt_shapes.specs.Blocks.{bare_rows}
use Rattle.mt_shapes.specs.Tables.{BeginsBelow}
use Rattle.mt_shapes.proofs.blocks.rows_of_unlabelled.Given as goal

abbrev pub invariant-loop-at : goal.invariant-loop-at
invariant-loop-at l =
    record {
      width : length l.block ≡ length l.initial.block;
      within : l.count ≤ length l.block;
      count : length (l.out ++ bare_rows (take l.count l.block)) + l.left ≡ length l.initial.out + l.room;
      added : Appends (BeginsBelow l.entries l.text l.from) l.room l.initial.out (l.out ++ bare_rows (take l.count l.block));
      kept : Begins l.initial.out l.out;
    }

abbrev pub decreases-loop-at : goal.decreases-loop-at
decreases-loop-at l = 64 * length l.begins - l.from
