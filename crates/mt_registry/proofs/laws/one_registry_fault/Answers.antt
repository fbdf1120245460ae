use Rattle.mt_registry.proofs.RegistryLaws.{one_fault}
use Rattle.mt_registry.proofs.laws.one_registry_fault.Goals as goal

pub returns : goal.returns
returns c = one_fault
