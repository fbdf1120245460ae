use Rattle.mt_automaton.proofs.Followed.{begins_on, begins_back}
use Rattle.mt_automaton.proofs.reach.begins_of.Goals as goal
use Rattle.mt_automaton.proofs.reach.begins_of.Goals.{in-On, in-Back}

pub returns : goal.returns
returns g c =
    let v = g.V.View.seen c.args.view.now in
    elim c.match-way.branch [
      | in-On w ↦ rw (w.in-On.is, w.begins-is)
          (begins_on v c.args.tag c.args.set.now w.keep.new.self c.requires.inside c.requires.set (rw c.in_ok-begins.ensures at w.keep.ensures.width) (rw c.in_ok-begins.ensures at w.keep.ensures.places))
      | in-Back w ↦ rw (w.in-Back.is, w.begins-is)
          (begins_back v c.args.tag c.args.set.now w.put.new.self c.requires.inside c.requires.set (rw c.in_ok-begins.ensures at w.put.ensures.width) w.put.ensures.places)
    ]
