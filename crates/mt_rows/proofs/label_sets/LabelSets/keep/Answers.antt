use Rattle.std.proofs.Common.{ap, length, arith}
use Rattle.mt_rows.proofs.Keeping.{kept_short}
use Rattle.mt_rows.proofs.Nine.{nine_length, nine_kept}
use Rattle.mt_rows.proofs.label_sets.LabelSets.keep.Goals as goal

pub keep_marked-requires : goal.keep_marked-requires
keep_marked-requires c = omega (arith, c.requires, nine_length c.self.inside.pairs.items c.self.inside.others.items, ap length c.self.view_is)

pub keep_marked-requires-2 : goal.keep_marked-requires-2
keep_marked-requires-2 c = omega (arith, c.requires, c.self.invariant, nine_length c.self.inside.pairs.items c.self.inside.others.items, ap length c.self.view_is)

pub invariant_of-self : goal.invariant_of-self
invariant_of-self c = rw (c.keep_marked.ensures, c.keep_marked-2.ensures) (kept_short c.args.marks.now c.self.inside.others.items c.self.inside.pairs.items c.self.invariant)

pub returns : goal.returns
returns c = rw (c.keep_marked.ensures, c.keep_marked-2.ensures, ← c.self.view_is) (nine_kept c.args.marks.now c.self.inside.pairs.items c.self.inside.others.items)
