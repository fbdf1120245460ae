use Rattle.std.proofs.Common.{◌≤◌, length, take}
use Rattle.mt_cql.specs.Shape.{shape}
use Rattle.mt_prepare.specs.Sighted.{IsSighted}
use Rattle.mt_eval_spec.specs.RowsIn.{RowsIn}
use Rattle.mt_eval.proofs.finding.rows_in_texts.Given as goal

abbrev pub invariant-loop-text : goal.invariant-loop-text
invariant-loop-text l =
    RowsIn l.asked.segment.now (take l.text-index l.text-items) (shape l.expr) l.out × (length l.out ≤ l.room) × IsSighted l.asked.segment.now (shape l.expr) l.sighted
