use Rattle.std.proofs.Common.{length, ap, arith, ◌<◌, ◌∙◌}
use Rattle.mt_segment_spec.specs.Tables.{Tables}
use Rattle.mt_segment.proofs.Instances.{text_inside, text_items}
use Rattle.mt_segment.proofs.segment.Segment.structs_in.Goals as goal
use Rattle.mt_segment.proofs.segment.Segment.structs_in.Goals.{After-len}

-- the text is there
its : (c : After-len) → c.args.text < length c.self.inside.texts
its c = omega (arith, c.requires.text, ap (λ (t : Tables). length t.texts) c.self.view_is)

pub get-requires : goal.get-requires
get-requires c =
    text_inside (length c.self.inside.texts) c.self.inside.kinds c.args.kind c.len.result c.self.inside.structs c.args.self.now.structs c.len.ensures (ap (λ (t : Tables). t.structs) c.self.view_is) c.self.invariant.2 c.requires.kind c.args.text
    (its (goal.at.get-requires c).After-len)

pub returns : goal.returns
returns c =
    c.get.ensures
    ∙ text_items (length c.self.inside.texts) c.self.inside.kinds c.args.kind c.len.result c.self.inside.structs c.args.self.now.structs c.len.ensures (ap (λ (t : Tables). t.structs) c.self.view_is) c.self.invariant.2 c.requires.kind c.args.text
    (its (goal.at.returns c).After-len)
