use Rattle.mt_rows.proofs.Nine.{nine_take}
use Rattle.mt_rows.proofs.label_sets.LabelSets.truncate.Goals as goal

pub returns : goal.returns
returns c = rw (c.truncate.ensures.items, c.truncate-2.ensures.items, ← c.self.view_is) (nine_take c.args.n c.self.inside.pairs.items c.self.inside.others.items)
