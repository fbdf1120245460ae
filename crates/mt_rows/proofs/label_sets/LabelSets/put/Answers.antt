use Rattle.std.proofs.Common.{◌≤◌, ap, length, arith}
use Rattle.mt_rows.proofs.Nine.{nine_length, puts_two, puts_nine}
use Rattle.mt_rows.proofs.label_sets.LabelSets.put.Goals as goal

pub put_at-requires : goal.put_at-requires
put_at-requires c = omega (arith, c.requires, nine_length c.self.inside.pairs.items c.self.inside.others.items, ap length c.self.view_is)

pub put_at-requires-2 : goal.put_at-requires-2
put_at-requires-2 c = omega (arith, c.requires, c.self.invariant, nine_length c.self.inside.pairs.items c.self.inside.others.items, ap length c.self.view_is)

pub returns-then-are_unset-clause-ok : goal.returns-then-are_unset-clause-ok
returns-then-are_unset-clause-ok c =
    rw (c.in_ok-put_at.ensures.ok, ← c.self.view_is)
    (puts_two c.self.inside.pairs.items c.self.inside.others.items c.args.at c.pair_of.result c.others_of-others.result c.args.set.now c.self.invariant c.pair_of.ensures c.others_of-others.ensures
    (c.are_unset.ensures c.if-are_unset.true))

pub returns-in-Ok-clause-ok : goal.returns-in-Ok-clause-ok
returns-in-Ok-clause-ok c =
    let pairs = c.self.inside.pairs.items in
    let others = c.self.inside.others.items in
    let room : length pairs ≤ c.args.at = omega (arith, c.requires, nine_length pairs others, ap length c.self.view_is) in
    rw (c.in_ok-put_at.ensures.ok, c.in-Ok.ensures.ok, ← c.self.view_is)
    (puts_nine pairs others c.args.at c.pair_of.result c.others_of-others.result c.args.set.now c.self.invariant room c.pair_of.ensures c.others_of-others.ensures)
