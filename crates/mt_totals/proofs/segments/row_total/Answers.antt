use Rattle.std.proofs.Common.{rules, ℕ, ◌+◌, ◌-◌, ◌≤◌, List, [], length, take, get_or, Err, IsErrOf, refl, ◌∙◌, subst, arith}
use Rattle.std.proofs.lemmas.List.{get_or_default}
use Rattle.std.proofs.lemmas.List.Elements.{All-get_or}
use Rattle.mt_text_spec.specs.Texts.{Text}
use Rattle.mt_match_spec.specs.Kept.{HasTooMany}
use Rattle.mt_match_spec.specs.Values.{Images}
use Rattle.mt_rows.specs.declared.error.EvalError.{EvalError}
use Rattle.mt_rows.specs.declared.error.EvalError.TheVariants.{TooManyRows}
use Rattle.mt_corpus_spec.specs.Groups.{corpus_of}
use Rattle.mt_corpus_spec.specs.Images.{AreImagesBy}
use Rattle.mt_search.proofs.Groups.{as_many, corpus_more, corpus_whole, groups_many, is_next}
use Rattle.mt_search.proofs.Taken.{in_all, none_taken, one_taken}
use Rattle.mt_totals.specs.Totals.{HasRowTotal}
use Rattle.mt_totals.specs.Whole.{IsWhole}
use Rattle.mt_totals.proofs.Joining.{are_tables, no_rows, one_more, too_many}
use Rattle.mt_totals.proofs.segments.row_total.Goals as goal

pub loop-i-init : goal.loop-i-init
loop-i-init g c = record {
  counted = λ images by. no_rows images c.args.corpus.now.registry c.args.query.now;
  few = omega arith;
  patterns = c.requires.patterns;
  shop = refl;
  rises = omega arith;
  takes = λ plain. none_taken c.args.query.now c.held.result.0.now _ (omega arith);
}

pub loop-i-preserved : goal.loop-i-preserved
loop-i-preserved g c =
    let C = c.args.corpus.now in
    let Q = c.args.query.now in
    let i = c.loop-i.i in
    let S = c.held.result.0.now in
    let L = c.held.result.1.now in
    let l : i + 1 ≤ length S = omega (arith, c.loop-i-test.true, c.len-i-end.ensures) in
    record {
      counted = λ images by.
          let stand = c.held.ensures.stand images by in
          let many = groups_many images C.registry C.groups S L stand in
          let lists = as_many S L c.held.ensures.numbers in
          let numbers = get_or L i [] in
          let next = is_next c.groups_are_told.ensures images C.registry C.groups S L Q stand c.held.ensures.tables c.held.ensures.groups c.requires.query i c.get.result.now numbers (omega (arith, l)) c.get.ensures (get_or_default L i [] numbers (omega (arith, l, lists))) in
          let whole = All-get_or IsWhole C.groups i [] (omega (arith, l, many)) (c.requires.whole images by) in
          let under = are_tables C.registry S i c.get.result.now c.held.ensures.tables (omega (arith, l)) c.get.ensures in
          let alone = c.requires.alone in
          subst (λ (ts : List Text). HasRowTotal images C.registry ts Q.head c.in_ok-total.total) (corpus_more C.groups i [] (omega (arith, l, many)))
          (one_more images C.registry (corpus_of (take i C.groups)) Q (get_or C.groups i []) c.get.result.now numbers next whole c.rows_are_joined.ensures c.have_rows_in.ensures under alone c.in_ok-count.count c.loop-i.total c.in_ok-total.total
          (c.in_ok-count.ensures.count alone.label alone.test alone.head) c.in_ok-total.ensures.sum (c.loop-i.invariant.counted images by));
      few = c.in_ok-total.ensures.few;
      patterns = c.count_in.ensures.patterns ∙ c.loop-i.invariant.patterns;
      shop = c.count_in.ensures.shop ∙ c.loop-i.invariant.shop;
      rises = omega (arith, c.loop-i.invariant.rises, c.count_in.ensures.rises);
      takes = λ plain. one_taken Q S i c.get.result.now (c.loop-i.steps - c.args.steps.now) (c.count_in.new.steps - c.loop-i.steps) (c.count_in.new.steps - c.args.steps.now) (omega (arith, l)) c.get.ensures
          (c.loop-i.invariant.takes plain) (c.count_in.ensures.takes plain) (omega (arith, c.loop-i.invariant.rises, c.count_in.ensures.rises));
    }

pub returns-clause-total : goal.returns-clause-total
returns-clause-total g c = λ images by.
    let C = c.args.corpus.now in
    let many = groups_many images C.registry C.groups c.held.result.0.now c.held.result.1.now (c.held.ensures.stand images by) in
    subst (λ (ts : List Text). HasRowTotal images C.registry ts c.args.query.now.head c.loop-i.total) (corpus_whole C.groups c.loop-i.i (omega (arith, c.loop-i-test.false, c.len-i-end.ensures, many))) (c.loop-i.invariant.counted images by)

pub returns-clause-takes : goal.returns-clause-takes
returns-clause-takes g c = λ plain images by.
    in_all images c.args.corpus.now.registry c.args.query.now c.loop-i.i c.args.corpus.now.groups c.held.result.0.now (c.loop-i.steps - c.args.steps.now) (c.held.ensures.stand images by).tables (c.loop-i.invariant.takes plain)

pub returns-in_err-total-clause-too_many : goal.returns-in_err-total-clause-too_many
returns-in_err-total-clause-too_many g c =
    let C = c.args.corpus.now in
    let Q = c.args.query.now in
    let i = c.loop-i.i in
    let S = c.held.result.0.now in
    let L = c.held.result.1.now in
    let l : i + 1 ≤ length S = omega (arith, c.loop-i-test.true, c.len-i-end.ensures) in
    let k : (images : Images) → AreImagesBy images C.taken → IsErrOf {T = ℕ} {E = EvalError} (Err c.in_err-total.field-0.0) TooManyRows → HasTooMany images C.registry (corpus_of C.groups) Q.head =
    λ images by h.
    let stand = c.held.ensures.stand images by in
    let many = groups_many images C.registry C.groups S L stand in
    let lists = as_many S L c.held.ensures.numbers in
    let numbers = get_or L i [] in
    let next = is_next c.groups_are_told.ensures images C.registry C.groups S L Q stand c.held.ensures.tables c.held.ensures.groups c.requires.query i c.get.result.now numbers (omega (arith, l)) c.get.ensures (get_or_default L i [] numbers (omega (arith, l, lists))) in
    let whole = All-get_or IsWhole C.groups i [] (omega (arith, l, many)) (c.requires.whole images by) in
    let under = are_tables C.registry S i c.get.result.now c.held.ensures.tables (omega (arith, l)) c.get.ensures in
    let alone = c.requires.alone in
    too_many c.have_rows.ensures c.rows_go_on.ensures images C.registry C.groups i Q.head (c.loop-i.total + c.in_ok-count.count) (omega (arith, l, many)) (c.in_err-total.ensures.too_many h)
    (one_more images C.registry (corpus_of (take i C.groups)) Q (get_or C.groups i []) c.get.result.now numbers next whole c.rows_are_joined.ensures c.have_rows_in.ensures under alone c.in_ok-count.count c.loop-i.total (c.loop-i.total + c.in_ok-count.count)
    (c.in_ok-count.ensures.count alone.label alone.test alone.head) refl (c.loop-i.invariant.counted images by)) in
    search (rules, k)

pub returns-in_err-count-clause-takes : goal.returns-in_err-count-clause-takes
returns-in_err-count-clause-takes g c = λ plain images by.
    let Q = c.args.query.now in
    let i = c.loop-i.i in
    let segments = c.held.result.0.now in
    in_all images c.args.corpus.now.registry Q (i + 1) c.args.corpus.now.groups segments (c.count_in.new.steps - c.args.steps.now) (c.held.ensures.stand images by).tables
    (one_taken Q segments i c.get.result.now (c.loop-i.steps - c.args.steps.now) (c.count_in.new.steps - c.loop-i.steps) (c.count_in.new.steps - c.args.steps.now) (omega (arith, c.loop-i-test.true, c.len-i-end.ensures)) c.get.ensures
    (c.loop-i.invariant.takes plain) (c.count_in.ensures.takes plain) (omega (arith, c.loop-i.invariant.rises, c.count_in.ensures.rises)))

pub returns-in_err-total-clause-takes : goal.returns-in_err-total-clause-takes
returns-in_err-total-clause-takes g c = λ plain images by.
    let Q = c.args.query.now in
    let i = c.loop-i.i in
    let segments = c.held.result.0.now in
    in_all images c.args.corpus.now.registry Q (i + 1) c.args.corpus.now.groups segments (c.count_in.new.steps - c.args.steps.now) (c.held.ensures.stand images by).tables
    (one_taken Q segments i c.get.result.now (c.loop-i.steps - c.args.steps.now) (c.count_in.new.steps - c.loop-i.steps) (c.count_in.new.steps - c.args.steps.now) (omega (arith, c.loop-i-test.true, c.len-i-end.ensures)) c.get.ensures
    (c.loop-i.invariant.takes plain) (c.count_in.ensures.takes plain) (omega (arith, c.loop-i.invariant.rises, c.count_in.ensures.rises)))
