use Rattle.std.proofs.Common.{length}
use Rattle.mt_automaton.proofs.pool.Pool.give_groups.Given as goal

abbrev pub decreases-loop-group : goal.decreases-loop-group
decreases-loop-group l = length l.groups.items
