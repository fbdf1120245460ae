-- There is room for the numbers that are left, and those before them went through the table.
use Rattle.std.proofs.Common.{◌≡◌, ◌+◌, ◌-◌, ◌≤◌, ◌++◌, take, vec_len, length}
use Rattle.std.specs.Vec.{vec_capacity}
use Rattle.mt_lexicon.specs.Joins.{renumbered}
use Rattle.mt_generate_tables.proofs.numbering.push_renumbered.Given as goal

abbrev pub invariant-loop-number : goal.invariant-loop-number
invariant-loop-number l = record {
  room : vec_len l.next + (length l.numbers - l.number-index) ≤ vec_capacity l.next;
  through : l.next.items ≡ l.initial.next.items ++ renumbered l.table (take l.number-index l.numbers);
}
