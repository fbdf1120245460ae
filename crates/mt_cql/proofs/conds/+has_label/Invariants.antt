use Rattle.std.proofs.Common.{length}
use Rattle.mt_cql.proofs.conds.+has_label.Given as goal

abbrev pub decreases-has_label : goal.decreases-has_label
decreases-has_label l = length l.places.now
