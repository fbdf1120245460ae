use Rattle.std.specs.List.{Contains}
use Rattle.mt_text_spec.specs.Orders.{row_cmp}
use Rattle.mt_match_spec.specs.Kept.{Passes}
use Rattle.mt_rows.specs.Filters.{within_kind}
use Rattle.mt_rows.specs.Laws.{kept_ascending}
use Rattle.mt_rows.proofs.SpansOf.{rows_in_order, operand_in_order}
use Rattle.mt_rows.proofs.Marking.{rows_length, rows_kept}
use Rattle.mt_rows.proofs.row_list.RowList.keep_within.Goals as goal

pub mark_within-requires-clause-spans : goal.mark_within-requires-clause-spans
mark_within-requires-clause-spans c = rw (c.as_spans.ensures) (rows_in_order c.self.inside.rows c.self.invariant)

pub mark_within-requires-clause-operand : goal.mark_within-requires-clause-operand
mark_within-requires-clause-operand c = operand_in_order c.args.operand.now c.requires

pub keep-requires : goal.keep-requires
keep-requires c =
    rw (c.deref.ensures.value)
    (rows_length (Passes (within_kind c.args.negated) (Contains c.args.operand.now)) c.self.inside.rows c.mark_within.new.marks.items (rw (← c.as_spans.ensures) c.in_ok-mark_within.ensures))

pub invariant_of-self : goal.invariant_of-self
invariant_of-self c = rw (c.keep.ensures) (kept_ascending row_cmp c.self.inside.rows c.deref.result.now c.self.invariant)

pub returns-clause-ok : goal.returns-clause-ok
returns-clause-ok c =
    rw (c.keep.ensures, c.deref.ensures.value, ← c.self.view_is)
    (rows_kept (Passes (within_kind c.args.negated) (Contains c.args.operand.now)) c.self.inside.rows c.mark_within.new.marks.items c.self.invariant (rw (← c.as_spans.ensures) c.in_ok-mark_within.ensures))
