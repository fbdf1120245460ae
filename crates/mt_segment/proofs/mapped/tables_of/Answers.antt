use Rattle.std.proofs.Common.{◌∙◌, ap, ap₂, length}
use Rattle.mt_lexicon.specs.Joins.{renumbered}
use Rattle.mt_segment_spec.specs.Tables.{AttrTables}
use Rattle.mt_segment.proofs.Mappings.{through_low}
use Rattle.mt_segment.proofs.mapped.tables_of.Goals as goal

pub postings_of-requires-clause-numbers : goal.postings_of-requires-clause-numbers
postings_of-requires-clause-numbers c =
    through_low c.args.numbers c.args.under.now.numbers c.as_slice-2.result.now (length c.args.lexicon) c.len.result c.requires.low c.requires.within
    (c.as_slice-2.ensures.value ∙ c.in_ok-column.ensures ∙ ap₂ renumbered c.new-table.ensures (c.as_slice.ensures ∙ ap (λ (t : AttrTables). t.numbers) c.under.view_is))
    c.len.ensures.number
