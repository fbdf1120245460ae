use Rattle.std.proofs.Common.{length}
use Rattle.mt_cql.proofs.parts.+least_again.Given as goal

abbrev pub decreases-least_again : goal.decreases-least_again
decreases-least_again l = length l.firsts.now
