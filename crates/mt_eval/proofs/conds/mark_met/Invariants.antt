use Rattle.std.proofs.Common.{◌≤◌, take}
use Rattle.std.specs.List.{All}
use Rattle.mt_rows.specs.Marks.{Tell}
use Rattle.mt_eval_spec.specs.RowsIn.{MeetsIn}
use Rattle.mt_eval.proofs.conds.mark_met.Given as goal

abbrev pub invariant-loop-i : goal.invariant-loop-i
invariant-loop-i g l = Tell (λ row. All (MeetsIn l.segment row) l.conds) (take l.i l.rows) l.marks.items × (l.initial.steps ≤ l.steps)
