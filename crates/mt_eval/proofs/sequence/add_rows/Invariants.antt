-- The rows of the positions that were passed are added.
use Rattle.std.proofs.Common.{◌≡◌, ℕ, ◌+◌, ◌-◌, ◌≤◌, List, ◌++◌, length}
use Rattle.std.specs.List.{All}
use Rattle.mt_text_spec.specs.Texts.{Row}
use Rattle.mt_text_spec.specs.Orders.{row_cmp}
use Rattle.mt_match_spec.specs.Rows.{ListsAll}
use Rattle.mt_cql.specs.Shape.{shape}
use Rattle.mt_eval.specs.Sequences.{IsOne, IsRowBelow, positions_of, test_at}
use Rattle.mt_eval.specs.Walks.{IsLeft, due, left_of}
use Rattle.mt_eval.proofs.sequence.add_rows.Given as goal

abbrev pub invariant-loop-place : goal.invariant-loop-place
invariant-loop-place g l =
    record {
      bound : ℕ;
      high : bound ≤ l.end;
      left : IsLeft (positions_of l.segment (test_at l.sequence.tests.now l.sequence.by)) bound (left_of l.walk.next l.walk.rest);
      rows : List Row;
      are : ListsAll row_cmp (IsRowBelow l.segment (shape l.sequence.expr.now) l.text l.sequence.by bound) rows;
      appended : l.out ≡ l.initial.out ++ rows;
      within : length rows ≤ l.room;
      rises : l.initial.steps ≤ l.steps;
      due_is : All IsOne l.sequence.tests.now → l.steps + due (length l.sequence.tests.now - 1) l.walk.next l.walk.rest ≤ l.initial.steps + due (length l.sequence.tests.now - 1) l.initial.walk.next l.initial.walk.rest;
    }

abbrev pub decreases-loop-place : goal.decreases-loop-place
decreases-loop-place g l = length (left_of l.walk.next l.walk.rest)
