-- The ledger is the one that the blank names.
use Rattle.mt_frequencies.proofs.walk.count_text.Given as goal

abbrev pub ghosts-count_by : goal.ghosts-count_by
ghosts-count_by a = record { name = a.blank.name; parts = a.blank.parts }
