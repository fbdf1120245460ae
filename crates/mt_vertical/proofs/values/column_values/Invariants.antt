use Rattle.std.proofs.Common.{◌≡◌, ◌-◌, ◌++◌, option_map}
use Rattle.mt_file_spec.specs.VerticalLines.{columns, first_columns}
use Rattle.mt_vertical.specs.Readers.{AreShort, columns_left}
use Rattle.mt_vertical.proofs.values.column_values.Given as goal

abbrev pub invariant-loop : goal.invariant-loop
invariant-loop l = record {
  so_far : l.row ++ first_columns (l.count - l.counter) (columns_left (option_map (λ text. text.now) l.left)) ≡ first_columns l.count (columns l.line);
  short : AreShort l.row;
}
