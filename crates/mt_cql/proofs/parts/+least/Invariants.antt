use Rattle.std.proofs.Common.{length}
use Rattle.mt_cql.proofs.parts.+least.Given as goal

abbrev pub decreases-least : goal.decreases-least
decreases-least l = length l.places.now
