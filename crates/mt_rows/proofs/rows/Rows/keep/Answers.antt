use Rattle.std.proofs.Common.{ap, length, arith}
use Rattle.mt_rows.proofs.Keeping.{kept_short}
use Rattle.mt_rows.proofs.Joined.{joined_length, joined_kept}
use Rattle.mt_rows.proofs.rows.Rows.keep.Goals as goal

pub keep_marked-requires : goal.keep_marked-requires
keep_marked-requires c = omega (arith, c.requires, joined_length c.self.inside.spans.items c.self.inside.labels, ap length c.self.view_is)

pub keep-requires : goal.keep-requires
keep-requires c = omega (arith, c.requires, c.self.invariant, joined_length c.self.inside.spans.items c.self.inside.labels, ap length c.self.view_is)

pub invariant_of-self : goal.invariant_of-self
invariant_of-self c = rw (c.keep_marked.ensures, c.keep.ensures) (kept_short c.args.marks.now c.self.inside.labels c.self.inside.spans.items c.self.invariant)

pub returns : goal.returns
returns c = rw (c.keep_marked.ensures, c.keep.ensures, ← c.self.view_is) (joined_kept c.args.marks.now c.self.inside.spans.items c.self.inside.labels)
