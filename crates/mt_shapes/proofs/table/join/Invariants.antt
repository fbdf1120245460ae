-- The entries so far were joined.
use Rattle.mt_match_spec.specs.Matches as m
use Rattle.mt_shapes.specs.Tables.{Adds, IsMatchBelow, IsMatchOf}
use Rattle.mt_shapes.proofs.table.join.Given as goal

abbrev pub invariant-loop-first : goal.invariant-loop-first
invariant-loop-first l = Adds l.last (m.Joined (IsMatchBelow l.firsts l.first-index) (IsMatchOf l.seconds)) l.initial.out.items l.out.items
