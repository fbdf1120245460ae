use Rattle.mt_counts.proofs.Numbering.{found_as, not_as}
use Rattle.mt_counts.proofs.names.Names.find.Goals as goal

pub returns-in-Some-clause-found : goal.returns-in-Some-clause-found
returns-in-Some-clause-found c = rw (← c.self.view_is) (found_as c.args.text.now c.self.inside.values.keys c.in-Some.number c.in-Some.ensures.index)

pub returns-in-None-clause-none : goal.returns-in-None-clause-none
returns-in-None-clause-none c = rw (← c.self.view_is) (not_as c.args.text.now c.self.inside.values.keys c.in-None.ensures.index)
