-- So many pairs have their places.
use Rattle.mt_counts.proofs.Placed.{IsPlacing}
use Rattle.mt_counts.proofs.tally.Tally.place_again.Given as goal

abbrev pub invariant-loop-k : goal.invariant-loop-k
invariant-loop-k l = IsPlacing l.fn.self l.self l.keys l.places.items l.k
