-- The rows of the texts so far, and the positions that are left behind them.
use Rattle.std.proofs.Common.{ℕ, ◌+◌, ◌-◌, ◌<◌, ◌≤◌, get_or, length, take}
use Rattle.std.specs.List.{All}
use Rattle.mt_cql.specs.Shape.{shape}
use Rattle.mt_segment_spec.specs.Tables.{first_place}
use Rattle.mt_eval_spec.specs.RowsIn.{RowsIn}
use Rattle.mt_eval.specs.Sequences.{IsOne, positions_of, test_at}
use Rattle.mt_eval.specs.Walks.{IsLeft, due, left_of}
use Rattle.mt_eval.proofs.finding.walked.Given as goal

abbrev pub invariant-loop-text : goal.invariant-loop-text
invariant-loop-text g l =
    record {
      rows : RowsIn l.asked.segment.now (take l.text-index l.text-items) (shape l.sequence.expr.now) l.out;
      within : length l.out ≤ l.room;
      bound : ℕ;
      left : IsLeft (positions_of l.asked.segment.now (test_at l.sequence.tests.now l.sequence.by)) bound (left_of l.walk.next l.walk.rest);
      low : (k : ℕ) → l.text-index ≤ k → k < length l.text-items → bound ≤ first_place l.asked.segment.now (get_or l.text-items k 0);
      rises : l.initial.steps ≤ l.steps;
      due_is : All IsOne l.sequence.tests.now → l.steps + due (length l.sequence.tests.now - 1) l.walk.next l.walk.rest ≤ l.initial.steps + due (length l.sequence.tests.now - 1) l.initial.walk.next l.initial.walk.rest;
    }
