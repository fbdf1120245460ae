-- The places in the first words are counted.
use Rattle.std.proofs.Common.{◌*◌}
use Rattle.mt_places.specs.Places.{In}
use Rattle.mt_tally.specs.Counts.{CountsBelow}
use Rattle.mt_tally.proofs.sets.place_count.Given as goal

abbrev pub invariant-loop-at : goal.invariant-loop-at
invariant-loop-at l = CountsBelow (64 * l.at) (In l.set) l.count
