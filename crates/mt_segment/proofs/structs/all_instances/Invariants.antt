-- The instances of the kinds so far.
use Rattle.mt_segment.specs.Building.{AreInstances}
use Rattle.mt_segment.proofs.structs.all_instances.Given as goal

abbrev pub invariant-loop-kind : goal.invariant-loop-kind
invariant-loop-kind l = AreInstances l.texts l.all l.kind
