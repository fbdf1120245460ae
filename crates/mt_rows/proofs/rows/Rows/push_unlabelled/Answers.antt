use Rattle.mt_rows.proofs.Joined.{push_plain}
use Rattle.mt_rows.proofs.rows.Rows.push_unlabelled.Goals as goal

pub returns-clause-ok : goal.returns-clause-ok
returns-clause-ok c = rw (c.in_ok-push.ensures.items, ← c.self.view_is) (push_plain c.self.inside.spans.items c.self.inside.labels c.args.span c.self.invariant)
