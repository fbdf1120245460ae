-- The tables of the columns so far are made.
use Rattle.mt_vertical_tables.specs.Columns.{AreTokenColumns}
use Rattle.mt_vertical_tables.proofs.few.row_columns.Given as goal

abbrev pub invariant-loop-column : goal.invariant-loop-column
invariant-loop-column l = AreTokenColumns l.rows.tokens l.column l.tables.items
