use Rattle.std.proofs.Common.{refl}
use Rattle.mt_registry.proofs.RegistryValid.{valid_read}
use Rattle.mt_registry.proofs.laws.valid_registries.Goals as goal

pub returns : goal.returns
returns c = λ mappers bytes registry r. valid_read mappers bytes _ registry _ r.faultless refl r.are refl r.some
