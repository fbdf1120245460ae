use Rattle.mt_automaton.proofs.labelled.+labelled_starts.Given as goal

abbrev pub decreases-labelled_starts : goal.decreases-labelled_starts
decreases-labelled_starts g l = goal.size-labelled_starts g l
