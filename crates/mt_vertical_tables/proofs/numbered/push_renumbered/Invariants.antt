-- There is room for the numbers that are left, and those before them were renumbered.
use Rattle.std.proofs.Common.{◌≡◌, ◌+◌, ◌-◌, ◌≤◌, ◌++◌, length, vec_len, take}
use Rattle.std.specs.Vec.{vec_capacity}
use Rattle.mt_lexicon.specs.Joins.{renumbered}
use Rattle.mt_vertical_tables.proofs.numbered.push_renumbered.Given as goal

abbrev pub invariant-loop-number : goal.invariant-loop-number
invariant-loop-number l = record {
  room : vec_len l.numbers + (length l.old - l.number-index) ≤ vec_capacity l.numbers;
  pushed : l.numbers.items ≡ l.initial.numbers.items ++ renumbered l.next (take l.number-index l.old);
}
