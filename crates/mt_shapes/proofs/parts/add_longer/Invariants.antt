-- The instances that begin below `from` were added.
use Rattle.std.proofs.Common.{◌-◌, ◌*◌, ◌+◌, ◌≤◌, length}
use Rattle.mt_shapes.specs.Tables.{Adds, IsLongerBelow}
use Rattle.mt_shapes.proofs.parts.add_longer.Given as goal

abbrev pub invariant-loop-at : goal.invariant-loop-at
invariant-loop-at g l =
    record {
      within : l.from ≤ l.last + 1;
      added : Adds l.last (IsLongerBelow (g.V.View.seen l.view) l.tag l.from) l.initial.out.items l.out.items;
    }

abbrev pub decreases-loop-at : goal.decreases-loop-at
decreases-loop-at g l = 64 * length l.begins - l.from
