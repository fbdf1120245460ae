-- The matches of the entries so far were added.
use Rattle.mt_shapes.specs.Tables.{Adds, IsMatchBelow}
use Rattle.mt_shapes.proofs.table.add_all.Given as goal

abbrev pub invariant-loop-entry : goal.invariant-loop-entry
invariant-loop-entry l = Adds l.last (IsMatchBelow l.entries l.entry-index) l.initial.out.items l.out.items
