-- The places so far are moved.
use Rattle.std.proofs.Common.{get_or}
use Rattle.mt_shapes.proofs.Labels.{DoneTo, at_base}
use Rattle.mt_shapes.proofs.shape.moved_labels.Given as goal

abbrev pub invariant-loop-i : goal.invariant-loop-i
invariant-loop-i l = DoneTo (λ j. at_base l.base (get_or l.labels j 0)) l.initial.places l.places l.i
