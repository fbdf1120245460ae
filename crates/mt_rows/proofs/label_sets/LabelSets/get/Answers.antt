use Rattle.std.proofs.Common.{ap, Some, sym, ◌∙◌, rules}
use Rattle.std.proofs.lemmas.Option.{slice_get_read, slice_get_past}
use Rattle.mt_rows.proofs.Nine.{none_at, two_at, nine_at}
use Rattle.mt_rows.proofs.label_sets.LabelSets.get.Goals as goal

pub returns-in-None : goal.returns-in-None
returns-in-None c = rw (← c.self.view_is) (sym (none_at c.self.inside.pairs.items c.self.inside.others.items c.args.i (slice_get_past c.self.inside.pairs.items c.args.i (search rules))))

pub returns-in-None-get : goal.returns-in-None-get
returns-in-None-get c =
    let pairs = c.self.inside.pairs.items in
    let others = c.self.inside.others.items in
    rw (← c.self.view_is)
    (ap Some c.nine.ensures ∙ sym (two_at pairs others c.args.i c.in-Some.pair.now (search (rules, slice_get_read)) (slice_get_past others c.args.i (search rules))))

pub returns-in-Some-get : goal.returns-in-Some-get
returns-in-Some-get c =
    let pairs = c.self.inside.pairs.items in
    let others = c.self.inside.others.items in
    rw (← c.self.view_is)
    (ap Some c.nine-in-Some-get.ensures ∙ sym (nine_at pairs others c.args.i c.in-Some.pair.now c.in-Some-get.others.now (search (rules, slice_get_read)) (search (rules, slice_get_read))))
