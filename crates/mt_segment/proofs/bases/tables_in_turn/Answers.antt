use Rattle.mt_segment.proofs.Assembled.{base_more, column_next}
use Rattle.mt_segment.proofs.bases.tables_in_turn.Goals as goal

pub loop-attr-preserved : goal.loop-attr-preserved
loop-attr-preserved c = record {
  tables = rw c.in_ok-push.ensures.items (base_more c.args.attrs.now c.args.texts.now c.loop-attr.tables.items c.loop-attr.attr-index c.loop-attr.column c.attr-item.result c.in_ok-first_tables.field-0
      c.loop-attr.invariant.tables c.loop-attr-test.true c.attr-item.is c.loop-attr.invariant.column c.in_ok-first_tables.ensures);
  column = column_next c.args.attrs.now c.loop-attr.attr-index c.loop-attr.column c.attr-item.result c.is_base.result c.loop-attr-test.true c.attr-item.is c.loop-attr.invariant.column c.is_base.ensures;
}
