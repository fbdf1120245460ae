use Rattle.std.proofs.Common.{arith}
use Rattle.std.proofs.lemmas.Grind.{common_steps}
use Rattle.mt_file_spec.specs.RegistryFile.{keyword_of}
use Rattle.mt_registry.proofs.block.keyword_of.Goals as goal

pub returns-then-eq : goal.returns-then-eq
unfolding keyword_of
returns-then-eq c = grind (arith, common_steps)

pub returns-then-eq-2 : goal.returns-then-eq-2
unfolding keyword_of
returns-then-eq-2 c = grind (arith, common_steps)

pub returns-then-eq-3 : goal.returns-then-eq-3
unfolding keyword_of
returns-then-eq-3 c = grind (arith, common_steps)

pub returns-then-eq-4 : goal.returns-then-eq-4
unfolding keyword_of
returns-then-eq-4 c = grind (arith, common_steps)

pub returns-then-eq-5 : goal.returns-then-eq-5
unfolding keyword_of
returns-then-eq-5 c = grind (arith, common_steps)

pub returns-else-eq-5 : goal.returns-else-eq-5
unfolding keyword_of
returns-else-eq-5 c = grind (arith, common_steps)
