-- A ledger for this call alone.
use Rattle.mt_pattern.proofs.plain.place_of.Given as goal

abbrev pub ghosts-place_by : goal.ghosts-place_by
ghosts-place_by a = record { name = a.blank.name; parts = a.blank.parts }
