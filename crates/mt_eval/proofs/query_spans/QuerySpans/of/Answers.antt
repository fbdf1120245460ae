use Rattle.mt_eval.proofs.Distinct.{listed}
use Rattle.mt_eval.proofs.query_spans.QuerySpans.of.Goals as goal

pub returns : goal.returns
returns c = rw c.into_rows.ensures (listed c.args.rows (c.are_distinct.ensures.0 c.if-not-are_distinct.false))
