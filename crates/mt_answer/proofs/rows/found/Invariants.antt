-- The steps of one call are counted by a ledger of its own.
use Rattle.mt_answer.proofs.rows.found.Given as goal

abbrev pub ghosts-rows_by : goal.ghosts-rows_by
ghosts-rows_by g a = record { name = a.blank.name; parts = a.blank.parts }
