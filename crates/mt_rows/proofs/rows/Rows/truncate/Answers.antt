use Rattle.mt_rows.proofs.Joined.{joined_take}
use Rattle.mt_rows.proofs.rows.Rows.truncate.Goals as goal

pub returns : goal.returns
returns c = rw (c.truncate.ensures.items, c.truncate-2.ensures, ← c.self.view_is) (joined_take c.args.n c.self.inside.spans.items c.self.inside.labels)
