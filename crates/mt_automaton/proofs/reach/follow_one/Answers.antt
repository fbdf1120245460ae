use Rattle.std.proofs.Common.{◌≤◌, Some, refl, arith}
use Rattle.mt_automaton.specs.Parts.{Longer}
use Rattle.mt_automaton.proofs.Followed.{one_here, one_begins, leads_in}
use Rattle.mt_automaton.proofs.reach.follow_one.Goals as goal

pub returns-then-contains : goal.returns-then-contains
returns-then-contains g c =
    let I = Longer (g.V.View.seen c.args.view.now) c.args.tag in
    let low : c.ordered-here.result.1 ≤ (g.V.View.seen c.args.view.now).text.tokens =
    leads_in c.args.way c.args.at c.in-Some.end c.ordered-here.result.1 (g.V.View.seen c.args.view.now).text.tokens c.ordered-here.ensures.far c.in-Some.ensures.some.some c.in-Some.ensures.some.within in
    one_here c.args.way I c.args.at c.in-Some.end c.ordered-here.result.0 c.ordered-here.result.1 c.args.set.now c.args.out.now c.insert.new.self c.ordered-here.ensures.near c.ordered-here.ensures.far
    c.in-Some.ensures.some (one_begins I c.args.at c.in-Some.end (Some c.in-Some.end) refl c.in-Some.ensures.only) (c.contains.ensures.yes c.if-contains.true) c.insert.ensures.width
    (omega (arith, low, c.requires.out)) c.insert.ensures.places
