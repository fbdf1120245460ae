use Rattle.std.proofs.Common.{[], ◌∷◌}
use Rattle.mt_text_spec.specs.Queries as q
use Rattle.mt_query_spec.specs.Contents.{OfBegin, OfEnd, OfWhole, token_tests, tags}
use Rattle.mt_cql.specs.Shape.{shape, test_shape}
use Rattle.mt_prepare.specs.Prepared.{AddsReady}
use Rattle.mt_prepare.proofs.Finding.{found_first, found_then}
use Rattle.mt_prepare.proofs.Readying.{adds_then, at_place}
use Rattle.mt_prepare.proofs.prepared.+add_expr.Goals as goal

pub returns-in_ok-add_expr-in-Seq-clause-ready : goal.returns-in_ok-add_expr-in-Seq-clause-ready
returns-in_ok-add_expr-in-Seq-clause-ready g t c =
    rw c.in-Seq.is
    (adds_then c.add_expr-in-Seq.result c.args.segment.now (token_tests (shape c.in-Seq.left.value)) (token_tests (shape c.in-Seq.right.value)) (tags (shape c.in-Seq.left.value)) (tags (shape c.in-Seq.right.value))
    c.args.ready.now c.add_expr.new.ready c.add_expr-in-Seq.new.ready (rw c.deref.ensures at c.in_ok-add_expr-in-Seq.ensures.ready) (rw c.deref-in-Seq.ensures at c.add_expr-in-Seq.ensures.ready))

pub returns-in_ok-add_expr-in-Choice-clause-ready : goal.returns-in_ok-add_expr-in-Choice-clause-ready
returns-in_ok-add_expr-in-Choice-clause-ready g t c =
    rw c.in-Choice.is
    (adds_then c.add_expr-in-Choice-2.result c.args.segment.now (token_tests (shape c.in-Choice.left.value)) (token_tests (shape c.in-Choice.right.value)) (tags (shape c.in-Choice.left.value)) (tags (shape c.in-Choice.right.value))
    c.args.ready.now c.add_expr-in-Choice.new.ready c.add_expr-in-Choice-2.new.ready (rw c.deref-in-Choice.ensures at c.in_ok-add_expr-in-Choice.ensures.ready) (rw c.deref-in-Choice-2.ensures at c.add_expr-in-Choice-2.ensures.ready))

pub returns-in-Begin-clause-ready : goal.returns-in-Begin-clause-ready
returns-in-Begin-clause-ready g t c =
    rw c.in-Begin.is
    (at_place c.add_tag.result (λ place. AddsReady c.args.segment.now [] (record { place = place; kind = c.in-Begin.kind; test = test_shape c.in-Begin.test } ∷ []) c.args.ready.now c.add_tag.new.ready) OfBegin c.add_tag.ensures.ready)

pub returns-in-End-clause-ready : goal.returns-in-End-clause-ready
returns-in-End-clause-ready g t c =
    rw c.in-End.is
    (at_place c.add_end.result (λ place. AddsReady c.args.segment.now [] (record { place = place; kind = c.in-End.kind; test = q.Any } ∷ []) c.args.ready.now c.add_end.new.ready) OfEnd c.add_end.ensures.ready)

pub returns-in-Whole-clause-ready : goal.returns-in-Whole-clause-ready
returns-in-Whole-clause-ready g t c =
    rw c.in-Whole.is
    (at_place c.add_tag-in-Whole.result (λ place. AddsReady c.args.segment.now [] (record { place = place; kind = c.in-Whole.kind; test = test_shape c.in-Whole.test } ∷ []) c.args.ready.now c.add_tag-in-Whole.new.ready) OfWhole c.add_tag-in-Whole.ensures.ready)

pub returns-in-Token-clause-ready : goal.returns-in-Token-clause-ready
returns-in-Token-clause-ready g t c = rw c.in-Token.is c.add_test.ensures.ready

pub returns-in-Repeat-clause-ready : goal.returns-in-Repeat-clause-ready
returns-in-Repeat-clause-ready g t c = rw c.in-Repeat.is (rw c.deref-in-Repeat.ensures at c.add_expr-in-Repeat.ensures.ready)

pub returns-in_err-add_expr-in-Seq-clause-finds : goal.returns-in_err-add_expr-in-Seq-clause-finds
returns-in_err-add_expr-in-Seq-clause-finds g t c =
    rw c.in-Seq.is
    (λ e. found_first c.args.segment.now (token_tests (shape c.in-Seq.left.value)) (token_tests (shape c.in-Seq.right.value)) _ ((rw c.deref.ensures at c.in_err-add_expr-in-Seq.ensures.finds) e.0))

pub returns-in_ok-add_expr-in-Seq-clause-finds : goal.returns-in_ok-add_expr-in-Seq-clause-finds
returns-in_ok-add_expr-in-Seq-clause-finds g t c =
    rw c.in-Seq.is
    (λ e. found_then c.args.segment.now (token_tests (shape c.in-Seq.left.value)) (token_tests (shape c.in-Seq.right.value)) c.args.steps.now c.add_expr.new.steps c.add_expr-in-Seq.new.steps c.in_ok-add_expr-in-Seq.ensures.rises c.add_expr-in-Seq.ensures.rises
    ((rw c.deref.ensures at c.in_ok-add_expr-in-Seq.ensures.finds) e.0) ((rw c.deref-in-Seq.ensures at c.add_expr-in-Seq.ensures.finds) e.1))
