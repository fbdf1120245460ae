-- The tokens so far are counted.
use Rattle.mt_frequencies.proofs.Places.{AreCounted}
use Rattle.mt_frequencies.proofs.tokens.count_tokens.Given as goal

abbrev pub invariant-loop-place : goal.invariant-loop-place
invariant-loop-place l = AreCounted l.segment l.attr l.from l.place l.fn.counts.items l.counts.items
