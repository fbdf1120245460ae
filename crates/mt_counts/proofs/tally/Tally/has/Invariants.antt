-- No pair that the walk has passed has a count.
use Rattle.std.proofs.Common.{[]}
use Rattle.mt_counts.proofs.Walks.{IsWalked}
use Rattle.mt_counts.proofs.tally.Tally.has.Given as goal

abbrev pub invariant-loop-below : goal.invariant-loop-below
invariant-loop-below l = IsWalked l.self-inside.counts.entries l.group l.below []

abbrev pub decreases-loop-below : goal.decreases-loop-below
decreases-loop-below l = l.below
