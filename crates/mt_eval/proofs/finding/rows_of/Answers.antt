use Rattle.std.proofs.Common.{◌-◌, get_or, subst, arith}
use Rattle.mt_text_spec.specs.Queries.{Expr}
use Rattle.mt_query_spec.specs.Contents.{token_tests}
use Rattle.mt_cql.specs.Shape.{shape}
use Rattle.mt_prepare.specs.Prepared.{IsReady}
use Rattle.mt_prepare.specs.Resolved.{Resolves}
use Rattle.mt_eval_spec.specs.RowsIn.{heads}
use Rattle.mt_eval.proofs.Exprs.{together, same_count}
use Rattle.mt_eval.proofs.Few.{few_steps, ones, some_one}
use Rattle.mt_eval.proofs.finding.rows_of.Goals as goal

pub get-ready-requires : goal.get-ready-requires
get-ready-requires g c =
    let count = same_count (IsReady c.args.asked.now.segment.now) (heads c.args.asked.now.query.now) c.args.asked.now.prepared.now.exprs c.requires.prepared in
    let low = c.requires.number in omega (arith, count, low)

pub rows_by_places-requires-clause-ready : goal.rows_by_places-requires-clause-ready
rows_by_places-requires-clause-ready g c =
    let T = c.args.asked.now.segment.now in
    rw c.get-ready.ensures
    (subst (λ (e : Expr). IsReady T e (get_or c.args.asked.now.prepared.now.exprs c.args.number c.get-ready.result.now)) c.requires.expr
    (together (IsReady T) (heads c.args.asked.now.query.now) c.args.asked.now.prepared.now.exprs c.args.number _ c.get-ready.result.now c.requires.prepared c.requires.number))

pub looked_by-requires : goal.looked_by-requires
looked_by-requires g c =
    let T = c.args.asked.now.segment.now in
    let ready : IsReady T (shape c.args.expr.now) c.get-ready.result.now = rw c.get-ready.ensures
    (subst (λ (e : Expr). IsReady T e (get_or c.args.asked.now.prepared.now.exprs c.args.number c.get-ready.result.now)) c.requires.expr
    (together (IsReady T) (heads c.args.asked.now.query.now) c.args.asked.now.prepared.now.exprs c.args.number _ c.get-ready.result.now c.requires.prepared c.requires.number)) in
    rw c.as_slice.ensures ready.attrs

pub rows_by_value-requires-clause-tests : goal.rows_by_value-requires-clause-tests
rows_by_value-requires-clause-tests g c =
    let T = c.args.asked.now.segment.now in
    let ready : IsReady T (shape c.args.expr.now) c.get-ready.result.now = rw c.get-ready.ensures
    (subst (λ (e : Expr). IsReady T e (get_or c.args.asked.now.prepared.now.exprs c.args.number c.get-ready.result.now)) c.requires.expr
    (together (IsReady T) (heads c.args.asked.now.query.now) c.args.asked.now.prepared.now.exprs c.args.number _ c.get-ready.result.now c.requires.prepared c.requires.number)) in
    rw c.as_slice-in-Some.ensures (record { is = c.in-Some.ensures.some.0; are = ready.tests_are; attrs = ready.attrs })

pub returns-in_err-rows-in-None-clause-few : goal.returns-in_err-rows-in-None-clause-few
returns-in_err-rows-in-None-clause-few g c = λ e.
    let T = c.args.asked.now.segment.now in
    let E = shape c.args.expr.now in
    let tests = c.get-ready.result.now.tests in
    let ready : IsReady T E c.get-ready.result.now = rw c.get-ready.ensures
    (subst (λ (e : Expr). IsReady T e (get_or c.args.asked.now.prepared.now.exprs c.args.number c.get-ready.result.now)) c.requires.expr
    (together (IsReady T) (heads c.args.asked.now.query.now) c.args.asked.now.prepared.now.exprs c.args.number _ c.get-ready.result.now c.requires.prepared c.requires.number)) in
    absurd (some_one E tests e ready.numbers (rw c.as_slice.ensures at c.in-None.ensures.none))

pub returns-in_ok-rows-in-None-clause-few : goal.returns-in_ok-rows-in-None-clause-few
returns-in_ok-rows-in-None-clause-few g c = λ e.
    let T = c.args.asked.now.segment.now in
    let E = shape c.args.expr.now in
    let tests = c.get-ready.result.now.tests in
    let ready : IsReady T E c.get-ready.result.now = rw c.get-ready.ensures
    (subst (λ (e : Expr). IsReady T e (get_or c.args.asked.now.prepared.now.exprs c.args.number c.get-ready.result.now)) c.requires.expr
    (together (IsReady T) (heads c.args.asked.now.query.now) c.args.asked.now.prepared.now.exprs c.args.number _ c.get-ready.result.now c.requires.prepared c.requires.number)) in
    absurd (some_one E tests e ready.numbers (rw c.as_slice.ensures at c.in-None.ensures.none))

pub returns-in_err-rows-in-Some-clause-few : goal.returns-in_err-rows-in-Some-clause-few
returns-in_err-rows-in-Some-clause-few g c = λ e.
    let T = c.args.asked.now.segment.now in
    let E = shape c.args.expr.now in
    let tests = c.get-ready.result.now.tests in
    let ready : IsReady T E c.get-ready.result.now = rw c.get-ready.ensures
    (subst (λ (e : Expr). IsReady T e (get_or c.args.asked.now.prepared.now.exprs c.args.number c.get-ready.result.now)) c.requires.expr
    (together (IsReady T) (heads c.args.asked.now.query.now) c.args.asked.now.prepared.now.exprs c.args.number _ c.get-ready.result.now c.requires.prepared c.requires.number)) in
    let known = c.texts-valid.ensures.valid in
    let few = (rw c.as_slice-in-Some.ensures at c.in_err-rows-in-Some.ensures.ones) (ones E tests e ready.numbers) in
    few_steps c.places_are_listed.ensures T known (c.tables_are_whole.ensures T known) E tests ready.tests_are ready.attrs (ones E tests e ready.numbers)
    (same_count (Resolves T) (token_tests E) tests ready.tests_are) c.in-Some.by (c.rows_by_value.new.steps - c.args.steps.now) (rw c.as_slice.ensures at c.in-Some.ensures.some.1) (omega (arith, few))

pub returns-in_ok-rows-in-Some-clause-few : goal.returns-in_ok-rows-in-Some-clause-few
returns-in_ok-rows-in-Some-clause-few g c = λ e.
    let T = c.args.asked.now.segment.now in
    let E = shape c.args.expr.now in
    let tests = c.get-ready.result.now.tests in
    let ready : IsReady T E c.get-ready.result.now = rw c.get-ready.ensures
    (subst (λ (e : Expr). IsReady T e (get_or c.args.asked.now.prepared.now.exprs c.args.number c.get-ready.result.now)) c.requires.expr
    (together (IsReady T) (heads c.args.asked.now.query.now) c.args.asked.now.prepared.now.exprs c.args.number _ c.get-ready.result.now c.requires.prepared c.requires.number)) in
    let known = c.texts-valid.ensures.valid in
    let few = (rw c.as_slice-in-Some.ensures at c.in_ok-rows-in-Some.ensures.ones) (ones E tests e ready.numbers) in
    few_steps c.places_are_listed.ensures T known (c.tables_are_whole.ensures T known) E tests ready.tests_are ready.attrs (ones E tests e ready.numbers)
    (same_count (Resolves T) (token_tests E) tests ready.tests_are) c.in-Some.by (c.rows_by_value.new.steps - c.args.steps.now) (rw c.as_slice.ensures at c.in-Some.ensures.some.1) (omega (arith, few))
