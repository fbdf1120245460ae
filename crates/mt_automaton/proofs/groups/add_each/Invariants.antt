-- The rows of places below `from` were added.
use Rattle.std.proofs.Common.{◌-◌, ◌≤◌, length}
use Rattle.mt_automaton.specs.Groups.{AddsRows, TokenBelow}
use Rattle.mt_automaton.proofs.groups.add_each.Given as goal

abbrev pub invariant-loop-at : goal.invariant-loop-at
invariant-loop-at l =
    record {
      within : l.from ≤ l.last;
      added : AddsRows (length l.places) (TokenBelow l.label l.places l.labels l.from) l.initial.out.items l.out.items;
    }

abbrev pub decreases-loop-at : goal.decreases-loop-at
decreases-loop-at l = l.last - l.from
