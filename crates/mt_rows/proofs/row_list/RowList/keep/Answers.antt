use Rattle.mt_text_spec.specs.Orders.{row_cmp}
use Rattle.mt_rows.specs.Laws.{kept_ascending}
use Rattle.mt_rows.proofs.row_list.RowList.keep.Goals as goal

pub invariant_of-self : goal.invariant_of-self
invariant_of-self c = rw (c.keep.ensures) (kept_ascending row_cmp c.self.inside.rows c.args.marks.now c.self.invariant)
