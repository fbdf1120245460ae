-- What is left of the line has the column, as far behind as columns are still to be passed.
use Rattle.std.proofs.Common.{◌≡◌, ◌-◌, get_or}
use denote.Shadow.{shadow}
use denote.Text.{Utf8}
use Rattle.mt_file_spec.specs.Tags.{missing}
use Rattle.mt_file_spec.specs.VerticalLines.{columns}
use Rattle.mt_vertical.specs.Columns.{column_in}
use Rattle.mt_vertical_tables.specs.Marks.{AreTabs}
use Rattle.mt_vertical_tables.proofs.marked.marked_column.Given as goal

abbrev pub invariant-loop : goal.invariant-loop
invariant-loop l = record {
  text : shadow (Utf8 l.rest);
  marked : AreTabs l.rest l.marks;
  whole : get_or (columns l.rest) (l.column - l.counter) missing ≡ column_in l.column l.line;
}
