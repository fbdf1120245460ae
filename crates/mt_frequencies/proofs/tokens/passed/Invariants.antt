-- The texts so far are live, or their tokens are counted.
use Rattle.mt_frequencies.proofs.Places.{IsPassedTo}
use Rattle.mt_frequencies.proofs.tokens.passed.Given as goal

abbrev pub invariant-loop-text : goal.invariant-loop-text
invariant-loop-text l = IsPassedTo l.segment l.attr l.text-index l.from l.live l.counts.items
