use Rattle.std.proofs.Common.{rules, ◌+◌, ◌-◌, ◌≤◌, List, [], length, take, get_or, Err, IsErrOf, refl, ◌∙◌, subst, arith}
use Rattle.mt_text_spec.specs.Texts.{Text}
use Rattle.mt_match_spec.specs.Values.{Images}
use Rattle.mt_rows.specs.declared.error.EvalError.{EvalError}
use Rattle.mt_rows.specs.declared.error.EvalError.TheVariants.{TooManyRows}
use Rattle.mt_eval_spec.specs.RowsIn.{heads}
use Rattle.mt_corpus_spec.specs.Groups.{corpus_of}
use Rattle.mt_corpus_spec.specs.Images.{AreImagesBy}
use Rattle.mt_corpus_laws.specs.Joined.{SomeHasTooMany}
use Rattle.mt_search.specs.Finds.{Finds}
use Rattle.mt_search.proofs.Groups.{are_texts, as_many, corpus_more, corpus_whole, groups_many, is_next, too_many_in_all}
use Rattle.mt_search.proofs.Taken.{in_all, none_taken, nowhere, one_taken}
use Rattle.mt_search.proofs.search.found_in.Goals as goal

pub loop-i-init : goal.loop-i-init
loop-i-init g c = (c.in_ok-found.ensures.count, c.in_ok-found.ensures.order, c.requires.patterns, refl, λ images by. c.in_ok-found.ensures.finds images c.args.corpus.now.registry, omega arith, λ plain. none_taken c.args.query.now c.held.result.0.now _ (omega arith))

pub get-requires-in-loop-i : goal.get-requires-in-loop-i
get-requires-in-loop-i g c = let count = as_many c.held.result.0.now c.held.result.1.now c.held.ensures.numbers in omega (arith, count, c.loop-i-test.true, c.len-i-end.ensures)

pub add_segment-requires-clause-live : goal.add_segment-requires-clause-live
add_segment-requires-clause-live g c =
    are_texts c.held.result.0.now c.held.result.1.now c.loop-i.i c.get.result.now c.get-in-loop-i.result.now c.held.ensures.numbers (omega (arith, c.loop-i-test.true, c.len-i-end.ensures)) c.get.ensures c.get-in-loop-i.ensures

pub returns-in_err-add_segment-clause-too_many : goal.returns-in_err-add_segment-clause-too_many
returns-in_err-add_segment-clause-too_many g c =
    let C = c.args.corpus.now in
    let Q = c.args.query.now in
    let i = c.loop-i.i in
    let l : i + 1 ≤ length c.held.result.0.now = omega (arith, c.loop-i-test.true, c.len-i-end.ensures) in
    let k : (images : Images) → AreImagesBy images C.taken → IsErrOf {T = Unit {0}} {E = EvalError} (Err c.in_err-add_segment.field-0.0) TooManyRows → SomeHasTooMany images C.registry (corpus_of C.groups) (heads Q) =
    λ images by h.
    let next = is_next c.groups_are_told.ensures images C.registry C.groups c.held.result.0.now c.held.result.1.now Q (c.held.ensures.stand images by) c.held.ensures.tables c.held.ensures.groups c.requires.query i c.get.result.now c.get-in-loop-i.result.now (omega (arith, l)) c.get.ensures c.get-in-loop-i.ensures in
    let many = groups_many images C.registry C.groups c.held.result.0.now c.held.result.1.now (c.held.ensures.stand images by) in
    too_many_in_all c.have_rows.ensures c.rows_go_on.ensures images C.registry C.groups i [] (heads Q) (omega (arith, l, many))
    (c.in_err-add_segment.ensures.too_many images C.registry (corpus_of (take i C.groups)) (get_or C.groups i []) next (c.loop-i.invariant.4 images by) h) in
    search (rules, k)

pub loop-i-preserved : goal.loop-i-preserved
loop-i-preserved g c =
    let C = c.args.corpus.now in
    let Q = c.args.query.now in
    let i = c.loop-i.i in
    let l : i + 1 ≤ length c.held.result.0.now = omega (arith, c.loop-i-test.true, c.len-i-end.ensures) in (
      c.in_ok-add_segment.ensures.count,
      c.in_ok-add_segment.ensures.order,
      c.add_segment.ensures.patterns ∙ c.loop-i.invariant.2,
      c.add_segment.ensures.shop ∙ c.loop-i.invariant.3,
      λ images by.
          let next = is_next c.groups_are_told.ensures images C.registry C.groups c.held.result.0.now c.held.result.1.now Q (c.held.ensures.stand images by) c.held.ensures.tables c.held.ensures.groups c.requires.query i c.get.result.now c.get-in-loop-i.result.now (omega (arith, l)) c.get.ensures c.get-in-loop-i.ensures in
          let many = groups_many images C.registry C.groups c.held.result.0.now c.held.result.1.now (c.held.ensures.stand images by) in
          subst (λ (ts : List Text). Finds images C.registry ts Q c.add_segment.new.self.rows c.add_segment.new.self.rooms c.add_segment.new.self.texts) (corpus_more C.groups i [] (omega (arith, l, many)))
          (c.in_ok-add_segment.ensures.finds images C.registry (corpus_of (take i C.groups)) (get_or C.groups i []) next (c.loop-i.invariant.4 images by)),
      omega (arith, c.loop-i.invariant.5, c.add_segment.ensures.rises),
      λ plain. one_taken Q c.held.result.0.now i c.get.result.now (c.loop-i.steps - c.args.steps.now) (c.add_segment.new.steps - c.loop-i.steps) (c.add_segment.new.steps - c.args.steps.now) (omega (arith, l)) c.get.ensures
          (c.loop-i.invariant.6 plain) (c.add_segment.ensures.takes plain) (omega (arith, c.loop-i.invariant.5, c.add_segment.ensures.rises)),
    )

pub returns-clause-finds : goal.returns-clause-finds
returns-clause-finds g c = λ images by.
    let C = c.args.corpus.now in
    let many = groups_many images C.registry C.groups c.held.result.0.now c.held.result.1.now (c.held.ensures.stand images by) in
    subst (λ (ts : List Text). Finds images C.registry ts c.args.query.now c.loop-i.found.rows c.loop-i.found.rooms c.loop-i.found.texts) (corpus_whole C.groups c.loop-i.i (omega (arith, c.loop-i-test.false, c.len-i-end.ensures, many))) (c.loop-i.invariant.4 images by)

pub returns-in_err-found-clause-takes : goal.returns-in_err-found-clause-takes
returns-in_err-found-clause-takes g c = λ plain images by. nowhere images c.args.corpus.now.registry c.args.query.now c.args.corpus.now.groups _ (omega arith)

pub returns-in_err-add_segment-clause-takes : goal.returns-in_err-add_segment-clause-takes
returns-in_err-add_segment-clause-takes g c = λ plain images by.
    let Q = c.args.query.now in
    let i = c.loop-i.i in
    let segments = c.held.result.0.now in
    in_all images c.args.corpus.now.registry Q (i + 1) c.args.corpus.now.groups segments (c.add_segment.new.steps - c.args.steps.now) (c.held.ensures.stand images by).tables
    (one_taken Q segments i c.get.result.now (c.loop-i.steps - c.args.steps.now) (c.add_segment.new.steps - c.loop-i.steps) (c.add_segment.new.steps - c.args.steps.now) (omega (arith, c.loop-i-test.true, c.len-i-end.ensures)) c.get.ensures
    (c.loop-i.invariant.6 plain) (c.add_segment.ensures.takes plain) (omega (arith, c.loop-i.invariant.5, c.add_segment.ensures.rises)))

pub returns-clause-takes : goal.returns-clause-takes
returns-clause-takes g c = λ plain images by.
    in_all images c.args.corpus.now.registry c.args.query.now c.loop-i.i c.args.corpus.now.groups c.held.result.0.now (c.loop-i.steps - c.args.steps.now) (c.held.ensures.stand images by).tables (c.loop-i.invariant.6 plain)
