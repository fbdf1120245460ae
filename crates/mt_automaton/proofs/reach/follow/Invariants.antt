-- What begins below `from` is followed.
use Rattle.std.proofs.Common.{◌+◌, ◌-◌, ◌≤◌}
use Rattle.mt_automaton.specs.Parts.{Longer}
use Rattle.mt_automaton.specs.Ways.{Adds, Below}
use Rattle.mt_automaton.proofs.reach.follow.Given as goal

abbrev pub invariant-loop-at : goal.invariant-loop-at
invariant-loop-at g l =
    record {
      within : l.from ≤ l.last + 1;
      added : Adds l.way (Below (Longer (g.V.View.seen l.view) l.tag) l.from) l.set l.initial.out l.out;
    }

abbrev pub decreases-loop-at : goal.decreases-loop-at
decreases-loop-at g l = l.last + 1 - l.from
