use Rattle.mt_automaton.proofs.compile.+compiled.Given as goal

abbrev pub decreases-compiled : goal.decreases-compiled
decreases-compiled l = goal.size-compiled l
