-- All conditions so far are met.
use Rattle.std.proofs.Common.{◌≡◌, ℕ, ◌≤◌, take}
use Rattle.std.specs.List.{All}
use Rattle.mt_segment_spec.specs.Tables.{first_place}
use Rattle.mt_eval_spec.specs.RowsIn.{MeetsIn}
use Rattle.mt_shapes.specs.Shapes.{row_of}
use Rattle.mt_tally.proofs.conds.meets_all.Given as goal

abbrev pub invariant-loop-cond : goal.invariant-loop-cond
invariant-loop-cond g l = record {
  met : (text : ℕ) → l.first ≡ first_place l.segment text → All (MeetsIn l.segment (row_of l.shape text l.begin)) (take l.cond-index l.conds);
  rises : l.initial.steps ≤ l.steps;
}
