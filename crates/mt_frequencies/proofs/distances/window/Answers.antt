use Rattle.std.proofs.Common.{◌+◌, arith, ap, w32, ◌∙◌}
use Rattle.std.proofs.lemmas.Int.{to_z-of_z}
use Rattle.mt_frequencies.specs.Distances.{left_size, right_size}
use Rattle.mt_frequencies.proofs.Windows.{are_distances, windows}
use Rattle.mt_frequencies.proofs.distances.window.Goals as goal

pub returns-clause-distances : goal.returns-clause-distances
returns-clause-distances c =
    let before_from = c.to_left.ensures ∙ ap left_size (to_z-of_z w32 c.args.to c.ranges.to) in
    let before_to = c.to_left-2.ensures ∙ ap left_size (to_z-of_z w32 c.args.from c.ranges.from) in
    let behind_from = c.to_right.ensures ∙ ap right_size (to_z-of_z w32 c.args.from c.ranges.from) in
    let behind_to = c.to_right-2.ensures ∙ ap right_size (to_z-of_z w32 c.args.to c.ranges.to) in
    windows c.args.from c.args.to c.max.result (c.to_left-2.result + 1) c.max-2.result (c.to_right-2.result + 1) c.requires (omega (arith, c.max.ensures, before_from)) (omega (arith, before_to)) (omega (arith, c.max-2.ensures, behind_from)) (omega (arith, behind_to))

pub returns-clause-valid : goal.returns-clause-valid
returns-clause-valid c =
    let before_from = c.to_left.ensures ∙ ap left_size (to_z-of_z w32 c.args.to c.ranges.to) in
    let before_to = c.to_left-2.ensures ∙ ap left_size (to_z-of_z w32 c.args.from c.ranges.from) in
    let behind_from = c.to_right.ensures ∙ ap right_size (to_z-of_z w32 c.args.from c.ranges.from) in
    let behind_to = c.to_right-2.ensures ∙ ap right_size (to_z-of_z w32 c.args.to c.ranges.to) in
    let order = are_distances c.args.from c.args.to c.requires in
    record { left = omega (arith, c.max.ensures); before = omega (arith, c.max.ensures, before_from, before_to, order.0); behind = omega (arith, c.max-2.ensures, behind_from, behind_to, order.1) }
