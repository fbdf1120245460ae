-- The heads are those of the texts so far.
use Rattle.std.proofs.Common.{◌≡◌, take}
use Rattle.mt_segment_spec.specs.Tables.{heads_of}
use Rattle.mt_segment.proofs.building.heads.Given as goal

abbrev pub invariant-loop-text : goal.invariant-loop-text
invariant-loop-text l = l.heads ≡ heads_of (take l.text-index l.texts)
