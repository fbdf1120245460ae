use Rattle.std.proofs.Common.{sym}
use Rattle.mt_registry.proofs.RegistryBuild.{mapper_is_known}
use Rattle.mt_registry.proofs.build.attr_of.Goals as goal

pub mapper_of-requires : goal.mapper_of-requires
mapper_of-requires c = mapper_is_known c.args.mappers.now c.args.all.now c.line.result c.in-Some.mapper.now c.value.result.now c.requires.sound (sym c.in-Some.ensures) c.value.ensures
