use Rattle.std.proofs.Common.{◌∙◌}
use Rattle.std.proofs.lemmas.Result.{on_ok_weaker}
use Rattle.mt_shapes.proofs.Matches.{are_stretches}
use Rattle.mt_shapes.proofs.table.add_stretch.Goals as goal

pub returns : goal.returns
returns c =
    on_ok_weaker c.add.result
    (λ a. are_stretches c.args.last c.args.count c.plain.result c.put.new.self c.args.out.now.items c.add.new.out.items c.requires.count (c.put.ensures.width ∙ c.in_ok-begins.ensures.width) c.put.ensures.places c.plain.ensures a)
    c.add.ensures
