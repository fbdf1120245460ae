use Rattle.std.proofs.Common.{◌∙◌}
use Rattle.std.proofs.lemmas.Result.{on_ok_weaker}
use Rattle.mt_shapes.proofs.Matches.{are_marked}
use Rattle.mt_shapes.proofs.parts.add_marked.Goals as goal

pub returns : goal.returns
returns g c =
    on_ok_weaker c.add.result
    (λ a. are_marked (g.V.View.seen c.args.view.now) c.args.mark c.args.last c.args.shape c.put.new.self c.args.out.now.items c.add.new.out.items c.requires.inside (c.put.ensures.width ∙ c.in_ok-begins.ensures.width)
    c.put.ensures.places a)
    c.add.ensures
