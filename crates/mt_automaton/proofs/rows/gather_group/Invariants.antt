-- The rows that end below `from` were added.
use Rattle.std.proofs.Common.{◌-◌, ◌*◌, ◌<◌, length}
use Rattle.mt_automaton.specs.RowsFrom.{EndsBelow, Gathers}
use Rattle.mt_automaton.proofs.rows.gather_group.Given as goal

abbrev pub invariant-loop-at : goal.invariant-loop-at
invariant-loop-at l =
    record {
      some : l.begin < l.from;
      added : Gathers (EndsBelow l.group.ends l.group.labels l.text l.begin l.from) l.initial.rows.items l.rows.items;
    }

abbrev pub decreases-loop-at : goal.decreases-loop-at
decreases-loop-at l = 64 * length l.group.ends - l.from
