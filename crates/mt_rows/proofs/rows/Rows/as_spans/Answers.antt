use Rattle.std.proofs.Common.{sym}
use Rattle.mt_rows.proofs.Joined.{spans_of}
use Rattle.mt_rows.proofs.rows.Rows.as_spans.Goals as goal

pub returns : goal.returns
returns c = rw (c.as_slice.ensures.value, ← c.self.view_is) (sym (spans_of c.self.inside.spans.items c.self.inside.labels))
