use Rattle.std.proofs.Common.{List, [], get_or, subst, sym, ◌∙◌, arith}
use Rattle.mt_text_spec.specs.Texts.{Span}
use Rattle.mt_text_spec.specs.Queries.{Expr}
use Rattle.mt_cql.specs.Shape.{shape}
use Rattle.mt_prepare.specs.Prepared.{IsReady}
use Rattle.mt_eval_spec.specs.RowsIn.{heads}
use Rattle.mt_eval.specs.Spans.{AreSpansOfTag}
use Rattle.mt_eval.proofs.Exprs.{together, same_count}
use Rattle.mt_eval.proofs.Spanned.{all_lent, of_ready}
use Rattle.mt_eval.proofs.spans.lent.Goals as goal

pub get-ready-requires : goal.get-ready-requires
get-ready-requires c =
    let count = same_count (IsReady c.args.asked.now.segment.now) (heads c.args.asked.now.query.now) c.args.asked.now.prepared.now.exprs c.requires.prepared in
    let low = c.requires.number in omega (arith, count, low)

pub get-requires : goal.get-requires
get-requires c =
    let T = c.args.asked.now.segment.now in
    let H = shape c.args.filter_of.now.head in
    let ready : IsReady T H c.get-ready.result.now = rw c.get-ready.ensures
    (subst (λ (e : Expr). IsReady T e (get_or c.args.asked.now.prepared.now.exprs c.args.number c.get-ready.result.now)) c.requires.expr
    (together (IsReady T) (heads c.args.asked.now.query.now) c.args.asked.now.prepared.now.exprs c.args.number _ c.get-ready.result.now c.requires.prepared c.requires.number)) in
    (of_ready T H c.get-ready.result.now.tags [] (c.is_tag.ensures.0 c.if-not-is_tag.false) ready.tags_are).0

pub returns-clause-rows : goal.returns-clause-rows
returns-clause-rows c =
    let T = c.args.asked.now.segment.now in
    let X = c.args.asked.now.texts.now in
    let H = shape c.args.filter_of.now.head in
    let ready : IsReady T H c.get-ready.result.now = rw c.get-ready.ensures
    (subst (λ (e : Expr). IsReady T e (get_or c.args.asked.now.prepared.now.exprs c.args.number c.get-ready.result.now)) c.requires.expr
    (together (IsReady T) (heads c.args.asked.now.query.now) c.args.asked.now.prepared.now.exprs c.args.number _ c.get-ready.result.now c.requires.prepared c.requires.number)) in
    let its = (of_ready T H c.get-ready.result.now.tags c.get.result.now (c.is_tag.ensures.0 c.if-not-is_tag.false) ready.tags_are).1 in
    let are : AreSpansOfTag T H c.as_slice-spans.result.now = subst (λ (spans : List Span). AreSpansOfTag T H spans) (sym (c.as_slice-spans.ensures ∙ c.get.ensures)) its in
    all_lent c.instances_lie_in_texts.ensures T c.texts-valid.ensures.valid X c.requires.texts H c.as_slice-spans.result.now are (c.all_have_rows.ensures.0 c.if-not-all_have_rows.false)
