-- The steps of one call are counted by a ledger of its own.
use Rattle.mt_answer.proofs.totals.total.Given as goal

abbrev pub ghosts-total_by : goal.ghosts-total_by
ghosts-total_by g a = record { name = a.blank.name; parts = a.blank.parts }
