use Rattle.std.proofs.lemmas.Result.{on_ok_weaker}
use Rattle.mt_shapes.proofs.Whole.{longer_here, none_here}
use Rattle.mt_shapes.proofs.parts.add_longer_at.Goals as goal

pub returns-in-Some : goal.returns-in-Some
returns-in-Some g c =
    on_ok_weaker c.add_one.result
    (λ a. longer_here (g.V.View.seen c.args.view.now) c.args.tag c.args.last c.args.at c.in-Some.end c.whole_end.result c.args.out.now.items c.add_one.new.out.items c.in-Some.is c.in-Some.ensures.some c.whole_end.ensures.only a)
    c.add_one.ensures

pub returns-in-None : goal.returns-in-None
returns-in-None g c = none_here (g.V.View.seen c.args.view.now) c.args.tag c.args.last c.args.at c.whole_end.result c.args.out.now.items c.in-None.is c.whole_end.ensures.only c.requires.fine
