use Rattle.std.proofs.Common.{subst}
use Rattle.mt_segment_spec.specs.Tables.{AreBaseTables}
use Rattle.mt_vertical_tables.proofs.TokenColumns.{no_columns, column_more}
use Rattle.mt_vertical_tables.proofs.few.row_columns.Goals as goal

pub loop-column-init : goal.loop-column-init
loop-column-init c = no_columns _ _ c.in_ok-tables.ensures.items

pub loop-column-preserved : goal.loop-column-preserved
loop-column-preserved c =
    column_more _ c.loop-column.column c.loop-column.tables.items c.push.new.self.items c.in_ok-tables-2.field-0 c.loop-column.invariant c.in_ok-push.ensures.items
    (subst (λ values. AreBaseTables values c.in_ok-tables-2.field-0) c.in_ok-take_column.ensures c.in_ok-tables-2.ensures.tables)
