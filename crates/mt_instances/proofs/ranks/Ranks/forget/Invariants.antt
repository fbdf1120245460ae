-- The names of the entries so far have none.
use Rattle.mt_instances.proofs.Forgetting.{AreForgotten}
use Rattle.mt_instances.proofs.ranks.Ranks.forget.Given as goal

abbrev pub invariant-loop-entry : goal.invariant-loop-entry
invariant-loop-entry l = AreForgotten l.entries l.entry-index l.self-inside.ends.items
