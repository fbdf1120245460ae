use Rattle.std.proofs.Common.{◌≡◌, ◌+◌, [], ◌∷◌, length, slice_get, Some, take, sym, ◌∙◌, ap, subst, arith}
use Rattle.std.proofs.lemmas.List.{length-append}
use Rattle.std.proofs.lemmas.Option.{slice_get-get_or}
use Rattle.mt_text_spec.specs.Orders.{row_cmp}
use Rattle.mt_match_spec.specs.Rows.{ListsAll}
use Rattle.mt_cql.specs.Shape.{shape}
use Rattle.mt_eval.proofs.Exprs.{valid_at}
use Rattle.mt_eval.proofs.Spanned.{IsRowOf, bare, none_yet, next_row, no_row, all_rows, too_many}
use Rattle.mt_eval.proofs.spans.rows_by_spans.Goals.{then-has_row+else-len-room+in_ok-push_unlabelled, else-has_row}
use Rattle.mt_eval.proofs.spans.rows_by_spans.Goals as goal

pub loop-span-init : goal.loop-span-init
loop-span-init c = record { rows = rw c.requires.none (none_yet c.args.asked.now.texts.now c.args.spans.now); room = rw c.requires.none (omega arith) }

pub returns-then-len-room-clause-too_many : goal.returns-then-len-room-clause-too_many
returns-then-len-room-clause-too_many c = λ _.
    let T = c.args.asked.now.segment.now in
    let E = shape c.args.expr.now in
    let query = c.requires.query in
    let spans = c.args.spans.now in
    let k = c.loop-span.span-index in
    let at : slice_get spans k ≡ Some c.span-item.result = slice_get-get_or spans k c.span-item.result c.loop-span-test.true ∙ ap Some (sym c.span-item.is) in
    too_many c.instances_lie_in_texts.ensures T c.texts-valid.ensures.valid c.args.asked.now.texts.now c.requires.texts E spans c.requires.spans c.have_rows_in.ensures c.no_more_than_all.ensures query.registry query.under
    (valid_at T c.args.asked.now.query.now query c.requires.valid.0 E c.requires.valid.1 c.requires.valid.2) k c.span-item.result c.args.room c.loop-span.out at (c.has_row.ensures.0 c.if-has_row.true)
    (omega (arith, c.if-len-room.true, c.len.ensures)) c.loop-span.invariant.rows

pub loop-span-preserved : goal.loop-span-preserved
loop-span-preserved c =
    let texts = c.args.asked.now.texts.now in
    let spans = c.args.spans.now in
    let k = c.loop-span.span-index in
    let span = c.span-item.result in
    let at : slice_get spans k ≡ Some span = slice_get-get_or spans k span c.loop-span-test.true ∙ ap Some (sym c.span-item.is) in
    let h = c.loop-span.invariant in
    elim c.if-has_row.branch [
      | then-has_row+else-len-room+in_ok-push_unlabelled w ↦
          let pushed = w.out-is ∙ w.in_ok-push_unlabelled.ensures.ok in
          let long = ap length pushed ∙ length-append c.loop-span.out (bare span ∷ []) in
          record {
            rows = next_row texts spans k span at c.requires.spans.are.ascending (c.has_row.ensures.0 w.if-has_row.true) c.loop-span.out c.if-has_row.out pushed h.rows;
            room = omega (arith, long, w.if-len-room.false, w.len.ensures);
          }
      | else-has_row w ↦ record {
        rows = subst (ListsAll row_cmp (IsRowOf texts (take (k + 1) spans))) (sym w.out-is) (no_row texts spans k span at (λ has. let one = c.has_row.ensures.1 has in let other = w.if-has_row.false in cc) c.loop-span.out h.rows);
        room = rw w.out-is h.room;
      }
    ]

pub returns-clause-rows : goal.returns-clause-rows
returns-clause-rows c =
    all_rows c.instances_lie_in_texts.ensures c.args.asked.now.segment.now c.texts-valid.ensures.valid c.args.asked.now.texts.now c.requires.texts (shape c.args.expr.now) c.args.spans.now c.requires.spans c.loop-span.span-index
    c.loop-span.out (omega (arith, c.loop-span-test.false)) c.loop-span.invariant.rows
