use Rattle.std.proofs.Common.{arith}
use Rattle.mt_automaton.proofs.Gaps.{gap_image}
use Rattle.mt_automaton.proofs.reach.gap.Goals as goal

pub returns : goal.returns
returns g c =
    gap_image c.args.way (g.V.View.seen c.args.view.now) c.args.least c.args.most c.args.set c.in_ok-all.all c.keep.new.self c.shift.new.set c.in_ok-reached.reached c.keep-2.new.self c.joined.result c.tokens-last.ensures.any
    (omega (arith, c.if-most-least.false)) c.in_ok-all.ensures.width c.in_ok-all.ensures.places c.keep.ensures.width (rw c.tokens-last.ensures.is at c.keep.ensures.places) c.shift.ensures c.in_ok-reached.ensures
    c.keep-2.ensures.width (rw c.tokens-last.ensures.is at c.keep-2.ensures.places) c.joined.ensures.width c.joined.ensures.places
