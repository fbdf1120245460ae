use Rattle.mt_automaton.proofs.FromOne.{are_ends}
use Rattle.mt_automaton.proofs.rows.plain_ends.Goals as goal

pub returns : goal.returns
returns g c =
    are_ends (g.V.View.seen c.args.view.now) c.args.part.now c.args.begin c.tokens-last.result c.in_ok-from.from c.in_ok-set.set c.keep.new.self c.tokens-last.ensures.is c.requires.inside c.in_ok-from.ensures.width
    c.in_ok-from.ensures.places c.in_ok-set.ensures c.keep.ensures.width c.keep.ensures.places
