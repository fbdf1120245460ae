-- The rows of the entries so far were appended, and there is room for `left` more.
use Rattle.std.proofs.Common.{◌≡◌, ◌+◌, length}
use Rattle.mt_rows.specs.Appends.{Appends}
use Rattle.mt_shapes.specs.Tables.{IsRowBelow}
use Rattle.mt_shapes.proofs.rows.rows_at.Given as goal

abbrev pub invariant-loop-entry : goal.invariant-loop-entry
invariant-loop-entry l =
    record {
      count : length l.out + l.left ≡ length l.initial.out + l.room;
      added : Appends (IsRowBelow l.entries l.text l.begin l.entry-index) l.room l.initial.out l.out;
    }
