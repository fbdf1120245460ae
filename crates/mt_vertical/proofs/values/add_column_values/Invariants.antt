-- The columns so far are added, and the others are left.
use Rattle.std.specs.Prelude.{vec_len, vec_capacity}
use Rattle.std.proofs.Common.{◌+◌, ◌-◌, ◌≤◌, option_map}
use Rattle.mt_vertical.specs.Readers.{columns_left}
use Rattle.mt_vertical.proofs.Added.{Added}
use Rattle.mt_vertical.proofs.values.add_column_values.Given as goal

abbrev pub invariant-loop : goal.invariant-loop
invariant-loop l = record {
  room : vec_len l.values + (l.count - l.counter) ≤ vec_capacity l.values;
  added : Added l.count (l.count - l.counter) l.line (columns_left (option_map (λ text. text.now) l.left)) l.initial.values.items l.values.items;
}
