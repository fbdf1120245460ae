-- None of the mappers before this one has the name.
use Rattle.std.proofs.Common.{◌≡◌, ℕ, ◌<◌, get_or}
use Rattle.mt_registry.proofs.build.mapper_of.Given as goal

abbrev pub invariant-loop-mapper : goal.invariant-loop-mapper
invariant-loop-mapper l = (k : ℕ) → k < l.mapper-index → get_or l.mapper-items k l.name ≡ l.name → ⊥
