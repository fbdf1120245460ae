-- The ledger is the one that the blank names.
use Rattle.mt_grammar_counts.proofs.counting.count_added.Given as goal

abbrev pub ghosts-count_one : goal.ghosts-count_one
ghosts-count_one g a = record { name = a.blank.name; parts = a.blank.parts }
