-- The walk down the chain has passed no number that has the hash.
use Rattle.std.proofs.Common.{length}
use Rattle.mt_lexicon.specs.Hashed.{hashes}
use Rattle.mt_lexicon.proofs.Chains.{HasPassed}
use Rattle.mt_lexicon.proofs.table.Table.last_from.Given as goal

abbrev pub invariant-loop-below : goal.invariant-loop-below
invariant-loop-below l = HasPassed (length l.self-inside.ends.items) (hashes l.self-inside.links.items) l.hash l.from l.below

abbrev pub decreases-loop-below : goal.decreases-loop-below
decreases-loop-below l = l.below
