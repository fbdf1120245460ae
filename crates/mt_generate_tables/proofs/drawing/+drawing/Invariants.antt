use Rattle.std.proofs.Common.{◌+◌, ◌*◌}
use Rattle.mt_generate_tables.proofs.drawing.+drawing.Given as goal

abbrev pub decreases-draw_beside : goal.decreases-draw_beside
decreases-draw_beside g l = 2 * l.halvings + 1

abbrev pub decreases-one : goal.decreases-one
decreases-one g l = 2 * l.halvings

abbrev pub decreases-other : goal.decreases-other
decreases-other g l = 2 * l.halvings
