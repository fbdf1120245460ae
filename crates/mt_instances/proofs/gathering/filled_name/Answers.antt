use Rattle.mt_instances.proofs.gathering.filled_name.Goals as goal

pub returns-in-Some-clause-filled : goal.returns-in-Some-clause-filled
returns-in-Some-clause-filled c = let is = c.requires.gathered.fills_are c.args.name c.args.value c.in-Some.number c.in-Some.ensures in (is.filled, is.there, is.is)
