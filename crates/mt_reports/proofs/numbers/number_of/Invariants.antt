-- The ledger is the one that the blank names.
use Rattle.mt_reports.proofs.numbers.number_of.Given as goal

abbrev pub ghosts-number_by : goal.ghosts-number_by
ghosts-number_by a = record { name = a.blank.name; parts = a.blank.parts }
