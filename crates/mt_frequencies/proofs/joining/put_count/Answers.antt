use Rattle.std.proofs.Common.{sym, ◌∙◌}
use Rattle.mt_frequencies.specs.Tallies.{counts_in}
use Rattle.mt_frequencies.proofs.Amounts.{raised_from}
use Rattle.mt_frequencies.proofs.joining.put_count.Goals as goal

pub returns : goal.returns
returns c = λ value at. raised_from (counts_in c.args.tally.now) (counts_in c.add.new.self) (counts_in c.raise.new.self) value c.args.more c.in_ok-place.ensures.counts (c.raise.ensures.raised value (c.in_ok-place.ensures.number ∙ sym c.value.ensures ∙ at))
