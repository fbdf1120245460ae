use Rattle.std.proofs.Common.{length}
use Rattle.mt_prepare.proofs.spare.Spare.take_all.Given as goal

abbrev pub decreases-loop-spans : goal.decreases-loop-spans
decreases-loop-spans l = length l.tags.items
