use Rattle.mt_counts.proofs.tally.Tally.place_known.Goals as goal

pub returns-in_ok-place-in-None-clause-below : goal.returns-in_ok-place-in-None-clause-below
returns-in_ok-place-in-None-clause-below c = rw c.hint.ensures c.in_ok-place-in-None.ensures.below
