use Rattle.mt_counts.proofs.Entries.{pair_exact}
use Rattle.mt_instances.proofs.Filling.{found_there}
use Rattle.mt_instances.proofs.fills.Fills.get.Goals as goal

pub returns-in-Some : goal.returns-in-Some
returns-in-Some c = rw (← c.self.view_is) (found_there _ (c.args.name, c.args.value) (pair_exact c.args.name c.args.value) c.self.inside.finals.entries c.in-Some.number.now c.in-Some.ensures.value)
