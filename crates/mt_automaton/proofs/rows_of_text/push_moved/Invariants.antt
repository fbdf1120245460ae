-- The rows so far were appended.
use Rattle.std.proofs.Common.{◌≡◌, ◌++◌, map, take}
use Rattle.mt_automaton.specs.Windows.{moved_row}
use Rattle.mt_automaton.proofs.rows_of_text.push_moved.Given as goal

abbrev pub invariant-loop-i : goal.invariant-loop-i
invariant-loop-i l = l.out ≡ l.initial.out ++ map (moved_row l.base) (take l.i l.rows)
