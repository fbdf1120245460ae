use Rattle.mt_registry_laws.proofs.Mappers.{all_there}
use Rattle.mt_registry_laws.proofs.mappers_are_at_hand.Goals as goal

pub returns : goal.returns
returns c = all_there
