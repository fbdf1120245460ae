-- The rows that end below `from` were appended, and there is room for `left` more.
use Rattle.std.proofs.Common.{◌≡◌, ◌+◌, ◌-◌, ◌*◌, ◌<◌, length}
use Rattle.mt_rows.specs.Appends.{Appends}
use Rattle.mt_automaton.specs.RowsFrom.{EndsBelow}
use Rattle.mt_automaton.proofs.rows.push_ends.Given as goal

abbrev pub invariant-loop-at : goal.invariant-loop-at
invariant-loop-at l =
    record {
      some : l.begin < l.from;
      count : length l.out + l.left ≡ length l.initial.out + l.room;
      added : Appends (EndsBelow l.set l.labels l.text l.begin l.from) l.room l.initial.out l.out;
    }

abbrev pub decreases-loop-at : goal.decreases-loop-at
decreases-loop-at l = 64 * length l.set - l.from
