-- The counts of the numbers so far are added.
use Rattle.std.proofs.Common.{◌≡◌, ℕ, List, take}
use Rattle.mt_frequencies.specs.Amounts.{amount_of, raised}
use Rattle.mt_frequencies.specs.Tallies.{counts_in}
use Rattle.mt_frequencies.proofs.joining.put_counts.Given as goal

abbrev pub invariant-loop-number : goal.invariant-loop-number
invariant-loop-number l = (value : List ℕ) → counts_in l.tally value ≡ raised (amount_of (take l.number l.lexicon) (take l.number l.counts) value) (counts_in l.fn.tally value)
