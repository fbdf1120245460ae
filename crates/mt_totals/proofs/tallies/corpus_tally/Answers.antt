use Rattle.std.proofs.Common.{rules, ℕ, ◌+◌, ◌-◌, ◌≤◌, List, [], length, take, get_or, Err, IsErrOf, refl, ◌∙◌, subst, arith}
use Rattle.mt_text_spec.specs.Texts.{Text}
use Rattle.mt_match_spec.specs.Kept.{HasTooMany}
use Rattle.mt_match_spec.specs.Values.{Images}
use Rattle.mt_rows.specs.declared.error.EvalError.{EvalError}
use Rattle.mt_rows.specs.declared.error.EvalError.TheVariants.{TooManyRows}
use Rattle.mt_corpus_spec.specs.Groups.{corpus_of}
use Rattle.mt_corpus_spec.specs.Images.{AreImagesBy}
use Rattle.mt_search.proofs.Groups.{are_texts, as_many, corpus_more, corpus_whole, groups_many, is_next}
use Rattle.mt_search.proofs.Taken.{in_all, none_taken, one_taken}
use Rattle.mt_tally.specs.Counts.{HasMore}
use Rattle.mt_tally.specs.declared.tally.Tally.{Tally}
use Rattle.mt_eval_spec.specs.RowsIn.{IsRowIn}
use Rattle.mt_totals.specs.Tallies.{HasTally}
use Rattle.mt_totals.proofs.Joining.{are_tables, too_many}
use Rattle.mt_totals.proofs.Tallied.{few_spans}
use Rattle.mt_totals.proofs.TalliesJoined.{many_rows, more_tally, no_tally}
use Rattle.mt_totals.proofs.tallies.corpus_tally.Goals as goal

pub loop-i-init : goal.loop-i-init
loop-i-init g c = record {
  tally = λ images by. no_tally images c.args.corpus.now.registry c.args.query.now;
  few = omega arith;
  spans = omega arith;
  patterns = c.requires.patterns;
  shop = refl;
  rises = omega arith;
  takes = λ plain. none_taken c.args.query.now c.held.result.0.now _ (omega arith);
}

pub get-requires-in-loop-i : goal.get-requires-in-loop-i
get-requires-in-loop-i g c = let count = as_many c.held.result.0.now c.held.result.1.now c.held.ensures.numbers in omega (arith, count, c.loop-i-test.true, c.len-i-end.ensures)

pub segment_tally-requires-clause-live : goal.segment_tally-requires-clause-live
segment_tally-requires-clause-live g c =
    are_texts c.held.result.0.now c.held.result.1.now c.loop-i.i c.get.result.now c.get-in-loop-i.result.now c.held.ensures.numbers (omega (arith, c.loop-i-test.true, c.len-i-end.ensures)) c.get.ensures c.get-in-loop-i.ensures

pub overflow_add-spans : goal.overflow_add-spans
overflow_add-spans g c =
    let few = few_spans c.get.result.now c.get-in-loop-i.result.now c.args.query.now c.in_ok-tally.tally.rows c.in_ok-tally.tally.spans c.in_ok-tally.ensures.tally in
    let room = c.in_ok-tally.ensures.within in
    let rows = c.loop-i.invariant.few in
    let spans = c.loop-i.invariant.spans in
    omega (arith, few, room, rows, spans)

pub loop-i-preserved : goal.loop-i-preserved
loop-i-preserved g c =
    let C = c.args.corpus.now in
    let Q = c.args.query.now in
    let i = c.loop-i.i in
    let S = c.held.result.0.now in
    let L = c.held.result.1.now in
    let l : i + 1 ≤ length S = omega (arith, c.loop-i-test.true, c.len-i-end.ensures) in
    let room = c.in_ok-tally.ensures.within in
    let few = few_spans c.get.result.now c.get-in-loop-i.result.now Q c.in_ok-tally.tally.rows c.in_ok-tally.tally.spans c.in_ok-tally.ensures.tally in
    record {
      tally = λ images by.
          let stand = c.held.ensures.stand images by in
          let many = groups_many images C.registry C.groups S L stand in
          let next = is_next c.groups_are_told.ensures images C.registry C.groups S L Q stand c.held.ensures.tables c.held.ensures.groups c.requires.query i c.get.result.now c.get-in-loop-i.result.now (omega (arith, l)) c.get.ensures c.get-in-loop-i.ensures in
          let under = are_tables C.registry S i c.get.result.now c.held.ensures.tables (omega (arith, l)) c.get.ensures in
          subst (λ (ts : List Text). HasTally images C.registry ts Q (c.loop-i.rows + c.in_ok-tally.tally.rows) (c.loop-i.spans + c.in_ok-tally.tally.spans)) (corpus_more C.groups i [] (omega (arith, l, many)))
          (more_tally images C.registry (corpus_of (take i C.groups)) Q (get_or C.groups i []) c.get.result.now c.get-in-loop-i.result.now next c.have_kept.ensures c.kept_are_told.ensures c.kept_are_joined.ensures c.have_spans.ensures c.rows_are_joined.ensures
          c.have_rows_in.ensures under c.requires.filters c.in_ok-tally.tally.rows c.in_ok-tally.tally.spans c.loop-i.rows c.loop-i.spans c.in_ok-tally.ensures.tally (c.loop-i.invariant.tally images by));
      few = let rows = c.loop-i.invariant.few in omega (arith, room, rows);
      spans = let spans = c.loop-i.invariant.spans in omega (arith, few, spans);
      patterns = c.segment_tally.ensures.patterns ∙ c.loop-i.invariant.patterns;
      shop = c.segment_tally.ensures.shop ∙ c.loop-i.invariant.shop;
      rises = omega (arith, c.loop-i.invariant.rises, c.segment_tally.ensures.rises);
      takes = λ plain. one_taken Q S i c.get.result.now (c.loop-i.steps - c.args.steps.now) (c.segment_tally.new.steps - c.loop-i.steps) (c.segment_tally.new.steps - c.args.steps.now) (omega (arith, l)) c.get.ensures
          (c.loop-i.invariant.takes plain) (c.segment_tally.ensures.takes plain) (omega (arith, c.loop-i.invariant.rises, c.segment_tally.ensures.rises));
    }

pub returns-clause-tally : goal.returns-clause-tally
returns-clause-tally g c = λ images by.
    let C = c.args.corpus.now in
    let many = groups_many images C.registry C.groups c.held.result.0.now c.held.result.1.now (c.held.ensures.stand images by) in
    subst (λ (ts : List Text). HasTally images C.registry ts c.args.query.now c.loop-i.rows c.loop-i.spans) (corpus_whole C.groups c.loop-i.i (omega (arith, c.loop-i-test.false, c.len-i-end.ensures, many))) (c.loop-i.invariant.tally images by)

pub returns-clause-takes : goal.returns-clause-takes
returns-clause-takes g c = λ plain images by.
    in_all images c.args.corpus.now.registry c.args.query.now c.loop-i.i c.args.corpus.now.groups c.held.result.0.now (c.loop-i.steps - c.args.steps.now) (c.held.ensures.stand images by).tables (c.loop-i.invariant.takes plain)

pub returns-in_err-tally-clause-too_many : goal.returns-in_err-tally-clause-too_many
returns-in_err-tally-clause-too_many g c =
    let C = c.args.corpus.now in
    let Q = c.args.query.now in
    let i = c.loop-i.i in
    let S = c.held.result.0.now in
    let L = c.held.result.1.now in
    let l : i + 1 ≤ length S = omega (arith, c.loop-i-test.true, c.len-i-end.ensures) in
    let k : (images : Images) → AreImagesBy images C.taken → IsErrOf {T = Tally} {E = EvalError} (Err c.in_err-tally.field-0.0) TooManyRows → HasTooMany images C.registry (corpus_of C.groups) Q.head =
    λ images by h.
    let stand = c.held.ensures.stand images by in
    let many = groups_many images C.registry C.groups S L stand in
    let next = is_next c.groups_are_told.ensures images C.registry C.groups S L Q stand c.held.ensures.tables c.held.ensures.groups c.requires.query i c.get.result.now c.get-in-loop-i.result.now (omega (arith, l)) c.get.ensures c.get-in-loop-i.ensures in
    let under = are_tables C.registry S i c.get.result.now c.held.ensures.tables (omega (arith, l)) c.get.ensures in
    let rows = c.loop-i.invariant.few in
    let room = 4194304 - c.loop-i.rows in
    let more = subst (λ (ns : List ℕ). HasMore (IsRowIn c.get.result.now ns Q.head) room) next.numbers (c.in_err-tally.ensures.too_many h) in
    let (count, above, has) = many_rows images C.registry (corpus_of (take i C.groups)) Q (get_or C.groups i []) c.get.result.now c.get-in-loop-i.result.now next c.rows_are_joined.ensures c.have_rows_in.ensures under room c.loop-i.rows more (c.loop-i.invariant.tally images by).rows_are in
    too_many c.have_rows.ensures c.rows_go_on.ensures images C.registry C.groups i Q.head (c.loop-i.rows + count) (omega (arith, l, many)) (omega (arith, above, rows)) has in
    search (rules, k)

pub returns-in_err-tally-clause-takes : goal.returns-in_err-tally-clause-takes
returns-in_err-tally-clause-takes g c = λ plain images by.
    let Q = c.args.query.now in
    let i = c.loop-i.i in
    let segments = c.held.result.0.now in
    in_all images c.args.corpus.now.registry Q (i + 1) c.args.corpus.now.groups segments (c.segment_tally.new.steps - c.args.steps.now) (c.held.ensures.stand images by).tables
    (one_taken Q segments i c.get.result.now (c.loop-i.steps - c.args.steps.now) (c.segment_tally.new.steps - c.loop-i.steps) (c.segment_tally.new.steps - c.args.steps.now) (omega (arith, c.loop-i-test.true, c.len-i-end.ensures)) c.get.ensures
    (c.loop-i.invariant.takes plain) (c.segment_tally.ensures.takes plain) (omega (arith, c.loop-i.invariant.rises, c.segment_tally.ensures.rises)))
