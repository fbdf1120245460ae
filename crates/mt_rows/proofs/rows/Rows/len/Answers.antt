use Rattle.std.proofs.Common.{ap, length, arith}
use Rattle.mt_rows.proofs.Joined.{joined_length}
use Rattle.mt_rows.proofs.rows.Rows.len.Goals as goal

pub returns : goal.returns
returns c = omega (arith, c.len.ensures, c.self.inside.spans.ok.0, joined_length c.self.inside.spans.items c.self.inside.labels, ap length c.self.view_is)
