use Rattle.std.proofs.Common.{arith, length, ◌∙◌, ap, get_or, List, ℕ}
use Rattle.mt_registry.proofs.build.mapper_of.Goals as goal

pub unreachable-requires : goal.unreachable-requires
unreachable-requires c = c.loop-mapper.invariant c.requires.0 (omega (arith, c.requires.1, ap length c.as_slice-mapper-items.ensures, c.loop-mapper-test.false)) (ap (λ (ms : List (List ℕ)). get_or ms c.requires.0 c.args.name.now) c.as_slice-mapper-items.ensures ∙ c.requires.2)
