-- None of the statements before this one has a cause.
use Rattle.std.proofs.Common.{take}
use Rattle.mt_registry.specs.Misstated.{AreUnblamed}
use Rattle.mt_registry.proofs.faults.first_blamed.Given as goal

abbrev pub invariant-loop-at : goal.invariant-loop-at
invariant-loop-at l = AreUnblamed l.mappers l.all l.unclosed (take l.at l.all)
