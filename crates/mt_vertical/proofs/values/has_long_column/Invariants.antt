-- The columns so far are short, and the others are left.
use Rattle.std.proofs.Common.{◌-◌, option_map}
use Rattle.mt_vertical.specs.Readers.{columns_left}
use Rattle.mt_vertical.proofs.LongColumns.{Passed}
use Rattle.mt_vertical.proofs.values.has_long_column.Given as goal

abbrev pub invariant-loop : goal.invariant-loop
invariant-loop l = Passed l.count (l.count - l.counter) l.line (columns_left (option_map (λ text. text.now) l.left))
