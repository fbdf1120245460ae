use Rattle.mt_eval_laws.proofs.Places.{places_are_listed}
use Rattle.mt_eval_laws.proofs.places_are_listed.Goals as goal

pub returns : goal.returns
returns c = places_are_listed c.numbers_stand_for_values.ensures
