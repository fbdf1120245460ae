use Rattle.mt_postings.proofs.moving.moved_positions.Given as goal

abbrev pub ghosts-moved_by : goal.ghosts-moved_by
ghosts-moved_by a = record { name = a.blank.name; parts = a.blank.parts }
