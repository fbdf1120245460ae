-- The ledger is the one that the blank names.
use Rattle.mt_frequencies.proofs.tokens.number_in.Given as goal

abbrev pub ghosts-number_by : goal.ghosts-number_by
ghosts-number_by a = record { name = a.blank.name; parts = a.blank.parts }
