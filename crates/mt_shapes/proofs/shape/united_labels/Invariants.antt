-- The places so far are united.
use Rattle.std.proofs.Common.{get_or}
use Rattle.mt_match_spec.specs.Labels.{place_of_either}
use Rattle.mt_shapes.proofs.Labels.{DoneTo}
use Rattle.mt_shapes.proofs.shape.united_labels.Given as goal

abbrev pub invariant-loop-i : goal.invariant-loop-i
invariant-loop-i l = DoneTo (λ j. place_of_either (get_or l.labels j 0) (get_or l.initial.places j 0)) l.initial.places l.places l.i
