-- The stretches of fewer than `count` tokens were added.
use Rattle.std.proofs.Common.{◌<◌, ◌≤◌}
use Rattle.mt_shapes.specs.Tables.{Adds, IsStretchBelow}
use Rattle.mt_shapes.proofs.table.add_gap.Given as goal

abbrev pub invariant-loop-count : goal.invariant-loop-count
invariant-loop-count l =
    record {
      within : l.least < l.count → l.count ≤ l.end;
      added : Adds l.last (IsStretchBelow l.last l.least l.count) l.initial.out.items l.out.items;
    }
