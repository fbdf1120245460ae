use Rattle.std.proofs.Common.{arith}
use Rattle.std.proofs.lemmas.Grind.{common_steps}
use Rattle.mt_file_spec.specs.RegistryFile.{effect_of}
use Rattle.mt_registry.proofs.lines.Reader.effect_of_key.Goals as goal

pub returns-in-Some : goal.returns-in-Some
unfolding effect_of
returns-in-Some c = grind (arith, common_steps)

pub returns-in-None : goal.returns-in-None
unfolding effect_of
returns-in-None c = grind (arith, common_steps)
