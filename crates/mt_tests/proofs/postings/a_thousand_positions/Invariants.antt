use Rattle.mt_tests.proofs.postings.a_thousand_positions.Given as goal

abbrev pub ghosts-sought : goal.ghosts-sought
ghosts-sought g a = record { name = a.blank.name; parts = a.blank.parts }
