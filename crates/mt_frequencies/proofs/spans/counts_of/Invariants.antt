-- The counts so far are listed.
use Rattle.std.proofs.Common.{◌≡◌, take}
use Rattle.mt_frequencies.specs.Seen.{spans_seen}
use Rattle.mt_frequencies.proofs.spans.counts_of.Given as goal

abbrev pub invariant-loop-one : goal.invariant-loop-one
invariant-loop-one l = l.counts.items ≡ spans_seen (take l.one-index l.seen)
