use Rattle.std.proofs.Common.{length}
use Rattle.mt_lexicon.proofs.merger.+merge.Given as goal

abbrev pub decreases-merge : goal.decreases-merge
decreases-merge l = length l.parts.now
