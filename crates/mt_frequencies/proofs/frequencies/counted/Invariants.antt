-- The values with a number below this one are looked at.
use Rattle.std.proofs.Common.{◌≡◌, filter, map, take}
use Rattle.mt_frequencies.specs.Tallies.{counts_in, frequency_of, is_counted}
use Rattle.mt_frequencies.proofs.frequencies.counted.Given as goal

abbrev pub invariant-loop-number : goal.invariant-loop-number
invariant-loop-number l = l.all.items ≡ map (frequency_of (counts_in l.tally)) (filter (is_counted l.more_than (counts_in l.tally)) (take l.number l.tally.values))
