use Rattle.mt_automaton.proofs.Images.{token_on, token_back}
use Rattle.mt_automaton.proofs.reach.token.Goals as goal

pub returns-in-On : goal.returns-in-On
returns-in-On g c = rw c.in-On.is (token_on (g.V.View.seen c.args.view.now) c.args.test c.args.set c.keep.new.self c.up.new.self c.requires c.keep.ensures.width c.keep.ensures.places c.up.ensures.width c.up.ensures.places)

pub returns-in-Back : goal.returns-in-Back
returns-in-Back g c = rw c.in-Back.is (token_back (g.V.View.seen c.args.view.now) c.args.test c.args.set c.down.new.self c.keep-in-Back.new.self c.down.ensures.width c.down.ensures.places c.keep-in-Back.ensures.width c.keep-in-Back.ensures.places)
