use Rattle.mt_automaton.proofs.Led.{tokens_lead}
use Rattle.mt_automaton.proofs.groups.add_token.Goals as goal

pub returns : goal.returns
returns g c =
    tokens_lead (g.V.View.seen c.args.view.now) c.args.label c.args.test c.args.from.now c.args.allowed.now c.args.labels c.down.new.self c.keep.new.self c.keep-2.new.self c.args.out.now.items c.add_each.new.out.items
    c.requires.allowed c.requires.from (rw c.in_ok-places.ensures at c.down.ensures.width) c.keep.ensures.width c.keep-2.ensures.width (rw c.in_ok-places.ensures at c.down.ensures.places) c.keep.ensures.places
    c.keep-2.ensures.places (rw c.tokens-last.ensures.is at c.in_ok-add_each.ensures)
