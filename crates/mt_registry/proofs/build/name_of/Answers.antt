use Rattle.std.proofs.Common.{◌∙◌}
use Rattle.mt_registry.proofs.RegistryBuild.{one_more_byte, all_bytes}
use Rattle.mt_registry.proofs.build.name_of.Goals as goal

pub loop-b-preserved : goal.loop-b-preserved
loop-b-preserved c = one_more_byte _ _ _ _ _ c.loop-b.b-index _ c.requires c.value-b-items.ensures c.loop-b-test.true c.from.ensures c.in_ok-push.ensures.ascii c.loop-b.invariant c.in_ok-push.ensures.bytes

pub returns : goal.returns
returns c = c.from_string.ensures ∙ all_bytes _ _ _ c.loop-b.invariant c.loop-b-test.false ∙ c.value-b-items.ensures
