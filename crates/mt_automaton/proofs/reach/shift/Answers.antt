use Rattle.mt_automaton.proofs.Gaps.{moved_on, moved_back}
use Rattle.mt_automaton.proofs.reach.shift.Goals as goal

pub returns-in-On : goal.returns-in-On
returns-in-On c = rw c.in-On.is (moved_on c.args.by c.args.set.now c.up.new.self c.up.ensures.width c.up.ensures.places)

pub returns-in-Back : goal.returns-in-Back
returns-in-Back c = rw c.in-Back.is (moved_back c.args.by c.args.set.now c.down.new.self c.down.ensures.width c.down.ensures.places)
