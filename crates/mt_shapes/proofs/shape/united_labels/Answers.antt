use Rattle.std.proofs.Common.{◌≡◌, length, ◌∙◌, ap}
use Rattle.mt_match_spec.specs.Labels.{united}
use Rattle.mt_shapes.proofs.Labels.{all_united, moved_length}
use Rattle.mt_shapes.proofs.shape.united_labels.Goals as goal

pub returns : goal.returns
returns c =
    let moves = c.moved_labels-places.ensures in
    let nine : length c.moved_labels-places.result ≡ 9 = ap length moves ∙ moved_length c.args.base c.args.others.now ∙ c.told-others in
    all_united c.args.labels.now c.moved_labels-places.result c.loop-i.places c.loop-i.i c.told-labels nine c.loop-i-test.false c.loop-i.invariant ∙ ap (united c.args.labels.now) moves
