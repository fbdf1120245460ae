use Rattle.mt_registry.proofs.RegistryLaws.{one_answer}
use Rattle.mt_registry.proofs.laws.one_registry_answer.Goals as goal

pub returns : goal.returns
returns c = one_answer
