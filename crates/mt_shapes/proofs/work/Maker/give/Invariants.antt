use Rattle.std.proofs.Common.{length}
use Rattle.mt_shapes.proofs.work.Maker.give.Given as goal

abbrev pub decreases-loop-entry : goal.decreases-loop-entry
decreases-loop-entry l = length l.entries.items
