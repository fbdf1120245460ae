-- The entries so far were joined.
use Rattle.mt_match_spec.specs.Matches as m
use Rattle.mt_shapes.specs.Shapes.{IsOf}
use Rattle.mt_shapes.specs.Tables.{Adds, IsMatchBelow}
use Rattle.mt_shapes.proofs.table.join_first.Given as goal

abbrev pub invariant-loop-second : goal.invariant-loop-second
invariant-loop-second l = Adds l.last (m.Joined (IsOf l.first.shape l.first.begins) (IsMatchBelow l.seconds l.second-index)) l.initial.out.items l.out.items
