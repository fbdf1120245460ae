-- The instances in the texts so far are added.
use Rattle.std.proofs.Common.{◌≡◌, ◌++◌, take}
use Rattle.mt_segment_spec.specs.Tables.{instances_of}
use Rattle.mt_segment.proofs.structs.add_kind.Given as goal

abbrev pub invariant-loop-text : goal.invariant-loop-text
invariant-loop-text l = l.all ≡ l.fn.all ++ instances_of l.kind (take l.text-index l.texts)
