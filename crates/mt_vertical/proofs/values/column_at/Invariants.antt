-- What is left of the line has the column, as far behind as columns are still to be passed.
use Rattle.std.proofs.Common.{◌≡◌, ◌-◌, get_or, option_map}
use Rattle.mt_file_spec.specs.Tags.{missing}
use Rattle.mt_vertical.specs.Columns.{column_in}
use Rattle.mt_vertical.specs.Readers.{columns_left}
use Rattle.mt_vertical.proofs.values.column_at.Given as goal

abbrev pub invariant-loop : goal.invariant-loop
invariant-loop l = get_or (columns_left (option_map (λ text. text.now) l.left)) (l.column - l.counter) missing ≡ column_in l.column l.line
