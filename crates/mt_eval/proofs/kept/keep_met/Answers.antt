use Rattle.std.proofs.Common.{length, Decides, Bool, ap, ◌∙◌}
use Rattle.std.specs.List.{All}
use Rattle.mt_text_spec.specs.Texts.{Row}
use Rattle.mt_text_spec.specs.Orders.{row_cmp}
use Rattle.mt_rows.specs.Laws.{kept_lists}
use Rattle.mt_eval_spec.specs.RowsIn.{MeetsIn}
use Rattle.mt_eval.proofs.Marks.{same_length}
use Rattle.mt_eval.proofs.kept.keep_met.Goals as goal

pub keep-requires : goal.keep-requires
keep-requires g c =
    ap length c.deref.ensures.value ∙ same_length (λ (row : Row) (mark : Bool). Decides mark (All (MeetsIn c.args.segment.now row) c.args.conds.now)) c.args.rows.now c.mark_met.new.marks.items c.in_ok-mark_met.ensures.tell

pub returns-clause-met : goal.returns-clause-met
returns-clause-met g c =
    rw (c.keep.ensures, c.deref.ensures.value)
    (kept_lists row_cmp (λ row. All (MeetsIn c.args.segment.now row) c.args.conds.now) c.args.rows.now c.mark_met.new.marks.items c.len.ensures.ascending c.in_ok-mark_met.ensures.tell)
