use Rattle.std.specs.Ordering.{eq_by_cmp}
use Rattle.std.proofs.lemmas.List.Filters.{dedup_is}
use Rattle.mt_text_spec.specs.Orders.{span_cmp}
use Rattle.mt_rows.proofs.SpansOf.{spans_listed}
use Rattle.mt_rows.proofs.row_list.RowList.spans.Goals as goal

pub returns : goal.returns
returns c =
    rw (c.from_vec.ensures, c.shrink_to_fit.ensures.items, dedup_is (eq_by_cmp span_cmp) c.in_ok-spans.spans.items c.keep_distinct.new.spans.items c.keep_distinct.ensures, c.in_ok-spans.ensures.items, c.as_spans.ensures, ← c.self.view_is)
    (spans_listed c.self.inside.rows c.self.invariant)
