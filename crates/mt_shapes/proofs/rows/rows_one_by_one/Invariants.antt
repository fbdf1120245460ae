-- The rows that begin before `from` were appended, and there is room for `left` more.
use Rattle.std.proofs.Common.{◌≡◌, ◌+◌, ◌-◌, ◌*◌, length}
use Rattle.mt_rows.specs.Appends.{Appends}
use Rattle.mt_shapes.specs.Tables.{BeginsBelow}
use Rattle.mt_shapes.proofs.rows.rows_one_by_one.Given as goal

abbrev pub invariant-loop-at : goal.invariant-loop-at
invariant-loop-at l =
    record {
      count : length l.out + l.left ≡ length l.initial.out + l.room;
      added : Appends (BeginsBelow l.entries l.text l.from) l.room l.initial.out l.out;
    }

abbrev pub decreases-loop-at : goal.decreases-loop-at
decreases-loop-at l = 64 * length l.begins - l.from
