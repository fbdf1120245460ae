use Rattle.mt_segment_spec.specs.Tables.{token_count}
use Rattle.mt_prepare.specs.TestRows.{SaysAt}
use Rattle.mt_totals.proofs.SetWords.{in_row}
use Rattle.mt_totals.proofs.counts.set_count.Goals as goal

pub row_of-requires-clause-known : goal.row_of-requires-clause-known
row_of-requires-clause-known g c = c.new-known.ensures.known c.args.segment.now

pub returns-clause-count : goal.returns-clause-count
returns-clause-count g c = in_row (token_count c.args.segment.now) (SaysAt c.args.segment.now c.args.test.now) c.in_ok-row.row c.place_count.result c.in_ok-row.ensures.row c.place_count.ensures
