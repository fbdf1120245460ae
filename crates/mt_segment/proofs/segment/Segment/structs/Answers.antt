use Rattle.std.proofs.Common.{length, ap, ◌∙◌}
use Rattle.mt_segment_spec.specs.Tables.{Tables}
use Rattle.mt_segment.proofs.Instances.{kind_inside, kind_items}
use Rattle.mt_segment.proofs.segment.Segment.structs.Goals as goal

pub joined-requires-clause-within : goal.joined-requires-clause-within
joined-requires-clause-within c =
    kind_inside (length c.self.inside.texts) c.self.inside.kinds c.args.kind c.len-texts.result c.self.inside.structs c.args.self.now.structs c.len-texts.ensures (ap (λ (t : Tables). t.structs) c.self.view_is) c.self.invariant.2 c.requires

pub returns : goal.returns
returns c =
    c.joined.ensures
    ∙ kind_items (length c.self.inside.texts) c.self.inside.kinds c.args.kind c.len-texts.result c.self.inside.structs c.args.self.now.structs c.len-texts.ensures (ap (λ (t : Tables). t.structs) c.self.view_is) c.self.invariant.2 c.requires
