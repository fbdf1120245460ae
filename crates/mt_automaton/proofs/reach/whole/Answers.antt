use Rattle.mt_automaton.proofs.Followed.{instance}
use Rattle.mt_automaton.proofs.reach.whole.Goals as goal

pub returns : goal.returns
returns g c =
    instance c.args.way (g.V.View.seen c.args.view.now) c.args.tag c.args.set c.keep.new.self c.follow.new.out c.tokens-last.ensures.inside c.requires (rw c.in_ok-out.ensures at c.keep.ensures.width)
    (rw c.in_ok-out.ensures at c.keep.ensures.places) c.follow.ensures
