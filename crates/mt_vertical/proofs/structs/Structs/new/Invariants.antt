use Rattle.std.proofs.Common.{◌≡◌}
use Rattle.mt_vertical.specs.Readers.{no_instances}
use Rattle.std.specs.Prelude.{replicate}
use Rattle.mt_vertical.proofs.structs.Structs.new.Given as goal

abbrev pub invariant-loop : goal.invariant-loop
invariant-loop l = l.kinds.items ≡ replicate l.counter no_instances
