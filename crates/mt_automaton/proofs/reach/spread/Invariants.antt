-- The set is spread by `done`.
use Rattle.std.proofs.Common.{◌-◌, ◌≤◌}
use Rattle.mt_automaton.specs.Ways.{Image, Along, UpTo}
use Rattle.mt_automaton.proofs.reach.spread.Given as goal

abbrev pub invariant-loop-done : goal.invariant-loop-done
invariant-loop-done l = record {
  within : l.done ≤ l.by;
  spread : Image (Along l.way (UpTo l.done)) l.initial.set l.set;
}

abbrev pub decreases-loop-done : goal.decreases-loop-done
decreases-loop-done l = l.by - l.done
