use Rattle.std.proofs.Common.{◌+◌, ◌*◌}
use Rattle.mt_thesaurus.proofs.sums.+halves.Given as goal

abbrev pub decreases-parts_by_halves : goal.decreases-parts_by_halves
decreases-parts_by_halves g l = 2 * l.halvings + 1

abbrev pub decreases-one : goal.decreases-one
decreases-one g l = 2 * l.halvings

abbrev pub decreases-other : goal.decreases-other
decreases-other g l = 2 * l.halvings
