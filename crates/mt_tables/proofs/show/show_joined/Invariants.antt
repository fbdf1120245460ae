-- A ledger for this segment alone.
use Rattle.mt_tables.proofs.show.show_joined.Given as goal

abbrev pub ghosts-show_segment : goal.ghosts-show_segment
ghosts-show_segment a = record { name = a.blank.name; parts = a.blank.parts }
