-- The rows of the texts so far.
use Rattle.std.proofs.Common.{◌≤◌, length, take}
use Rattle.mt_cql.specs.Shape.{shape}
use Rattle.mt_eval_spec.specs.RowsIn.{RowsIn}
use Rattle.mt_eval.proofs.gapped.rows_by_gap.Given as goal

abbrev pub invariant-loop-text : goal.invariant-loop-text
invariant-loop-text g l =
    record {
      rows : RowsIn l.asked.segment.now (take l.text-index l.text-items) (shape l.gapped.expr.now) l.out;
      within : length l.out ≤ l.room;
      rises : l.initial.steps ≤ l.steps;
    }
