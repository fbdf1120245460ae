-- The ledger is the one that the blank names.
use Rattle.mt_grammar_counts.proofs.counting.count_corpus.Given as goal

abbrev pub ghosts-count_all : goal.ghosts-count_all
ghosts-count_all g a = record { name = a.blank.name; parts = a.blank.parts }
