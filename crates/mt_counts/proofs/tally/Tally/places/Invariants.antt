-- The walk has listed the places that it has passed.
use Rattle.mt_counts.proofs.Walks.{IsWalked}
use Rattle.mt_counts.proofs.tally.Tally.places.Given as goal

abbrev pub invariant-loop-below : goal.invariant-loop-below
invariant-loop-below l = IsWalked l.self-inside.counts.entries l.group l.below l.places.items

abbrev pub decreases-loop-below : goal.decreases-loop-below
decreases-loop-below l = l.below
