use Rattle.std.proofs.Common.{length, slice_index_or, ap, arith, ◌∙◌}
use Rattle.mt_segment_spec.specs.Tables.{AttrTables, Tables}
use Rattle.mt_segment.specs.Lists.{groups}
use Rattle.mt_segment.proofs.Lookups.{IsRead, list_read, list_there}
use Rattle.mt_segment.proofs.segment.Segment.postings.Goals as goal
use Rattle.mt_segment.proofs.segment.Segment.postings.Goals.{After-behind-self}

its : (c : After-behind-self) → IsRead (record { texts = c.self.inside.texts; attrs = c.self.inside.attrs; structs = groups (length c.self.inside.texts) c.self.inside.kinds c.self.inside.structs }) c.args.attr c.get.result.now
its c = record { within = omega (arith, c.requires.attr, ap (λ (t : Tables). length t.attrs) c.self.view_is); is = c.get.ensures }

pub get-requires-2 : goal.get-requires-2
get-requires-2 c =
    omega (
      arith,
      list_there _ _ (c.tables_are_whole.ensures _ c.self.invariant.0) c.self.view_is c.args.attr c.args.id c.get.result.now (its (goal.at.get-requires-2 c).After-behind-self) c.requires.id,
      ap (λ (t : AttrTables). length t.postings) c.behind-self.view_is,
    )

pub returns : goal.returns
returns c =
    c.get-2.ensures ∙ ap (λ (t : AttrTables). slice_index_or t.postings c.args.id c.get-2.result.now) c.behind-self.view_is
    ∙ list_read _ _ (c.tables_are_whole.ensures _ c.self.invariant.0) c.self.view_is c.args.attr c.args.id c.get.result.now (its (goal.at.returns c).After-behind-self) c.requires.id c.get-2.result.now
