-- The rows of the spans so far are there.
use Rattle.std.proofs.Common.{◌≤◌, length, take}
use Rattle.mt_text_spec.specs.Orders.{row_cmp}
use Rattle.mt_match_spec.specs.Rows.{ListsAll}
use Rattle.mt_eval.proofs.Spanned.{IsRowOf}
use Rattle.mt_eval.proofs.spans.rows_by_spans.Given as goal

abbrev pub invariant-loop-span : goal.invariant-loop-span
invariant-loop-span l =
    record {
      rows : ListsAll row_cmp (IsRowOf l.asked.texts.now (take l.span-index l.spans)) l.out;
      room : length l.out ≤ l.room;
    }
