use Rattle.std.proofs.Common.{arith}
use Rattle.mt_registry.proofs.RegistryBuild.{number_within}
use Rattle.mt_registry.proofs.build.number_of.Goals as goal

pub returns-clause-few : goal.returns-clause-few
returns-clause-few c = omega (arith, c.attributes_before.ensures, number_within c.args.name.now c.args.all.now)
