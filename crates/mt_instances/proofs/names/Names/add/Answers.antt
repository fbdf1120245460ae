use Rattle.mt_counts.proofs.Numbering.{found_in}
use Rattle.mt_instances.proofs.names.Names.add.Goals as goal

pub returns-in-Some-clause-number : goal.returns-in-Some-clause-number
returns-in-Some-clause-number c = rw (← c.self.view_is) (found_in c.args.name.now c.self.inside.values.keys c.in-Some.number c.in-Some.ensures.index)
