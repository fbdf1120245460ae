use Rattle.std.proofs.Common.{◌≡◌, ◌+◌, ◌-◌, length, arith}
use Rattle.mt_rows.proofs.Joined.{push_labelled}
use Rattle.mt_rows.proofs.rows.Rows.push.Goals as goal

pub returns-in-Ok-clause-ok : goal.returns-in-Ok-clause-ok
returns-in-Ok-clause-ok c =
    let spans = c.self.inside.spans.items in
    let labels = c.self.inside.labels in
    let count : length labels + (length spans - length labels) ≡ length spans = omega (arith, c.self.invariant) in
    rw (c.in_ok-push.ensures.items, c.in-Ok.ensures.ok, c.span-2.ensures, c.labels-2.ensures, c.len-at.ensures, c.self.inside.spans.ok.0, ← c.self.view_is)
    (push_labelled spans labels (length spans - length labels) c.args.row.span c.args.row.labels count)
