use Rattle.mt_prepare.proofs.Found.{accepted_some, accepted_none}
use Rattle.mt_prepare.proofs.judges.is_accepted.Goals as goal

pub returns-in-Some-clause-found : goal.returns-in-Some-clause-found
returns-in-Some-clause-found g c = accepted_some c.args.values.now c.args.ids.now c.args.value.now c.in-Some.id c.has.result c.len-ascending.ensures.ascending c.in-Some.ensures.found c.has.ensures

pub returns-in-None-clause-found : goal.returns-in-None-clause-found
returns-in-None-clause-found g c = accepted_none c.args.values.now c.args.ids.now c.args.value.now c.in-None.ensures.none
