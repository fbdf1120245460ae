use Rattle.std.proofs.Common.{length}
use Rattle.mt_cql.proofs.same.+same_conds.Given as goal

abbrev pub decreases-same_conds : goal.decreases-same_conds
decreases-same_conds l = length l.left.now
