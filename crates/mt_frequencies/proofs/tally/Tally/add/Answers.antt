use Rattle.mt_frequencies.proofs.Counted.{found_in}
use Rattle.mt_frequencies.proofs.tally.Tally.add.Goals as goal

pub returns-in-Some-clause-number : goal.returns-in-Some-clause-number
returns-in-Some-clause-number c = rw (← c.self.view_is) (found_in c.args.text.now c.in_ok-value.value c.self.inside.values.keys c.in-Some.number c.in_ok-value.ensures c.in-Some.ensures.index)
