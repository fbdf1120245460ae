use Rattle.mt_registry.proofs.RegistryLaws.{one_registry}
use Rattle.mt_registry.proofs.laws.one_registry.Goals as goal

pub returns : goal.returns
returns c = one_registry
