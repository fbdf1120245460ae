use Rattle.std.proofs.Common.{rules, ◌<◌, ◌∙◌, List, length, get_or, Err, IsErrOf, sym, ap, subst, arith}
use Rattle.std.specs.Prelude.{MatchOption}
use Rattle.std.proofs.lemmas.List.{append-nil}
use Rattle.mt_text_spec.specs.Texts.{Text}
use Rattle.mt_text_spec.specs.Queries.{Query}
use Rattle.mt_match_spec.specs.Values.{Images}
use Rattle.mt_eval_spec.specs.Fits.{Fits}
use Rattle.mt_prepare.specs.Prepared.{IsPrepared}
use Rattle.mt_instances.specs.Laws.{AreOfLines, Line}
use Rattle.mt_grammar_counts.specs.Collecting.{AreButOne}
use Rattle.mt_grammar_counts.specs.Told.{SomeIsOver, Tells}
use Rattle.mt_grammar_counts.specs.declared.error.CountError.{CountError}
use Rattle.mt_grammar_counts.specs.declared.error.CountError.TheVariants.{TooManyRows}
use Rattle.mt_grammar_counts.proofs.Parts.{all_at, as_long, both_at}
use Rattle.mt_grammar_counts.proofs.LineLists.{fit_more, fit_none, fit_whole, gives_more, gives_none, lines_more, lines_whole, over_at, still_known}
use Rattle.mt_grammar_counts.proofs.lines.add_relation.Goals as goal

pub loop-i-init : goal.loop-i-init
loop-i-init g c = record {
  only = gives_none c.args.collector.now;
  waiting = c.requires.waiting;
  given = λ images of lines tells before.
      subst (λ (ls : List Line). MatchOption c.args.waiting.now (AreOfLines images c.args.text.now.registry.now of ls c.args.collector.now.given)
      (λ w. AreButOne images c.args.text.now.registry.now of c.args.text.now.segment.now c.args.text.now.number ls w.relation.now w.rows c.args.collector.now.given)) (sym (append-nil lines)) before;
  rows = c.requires.rows;
  fit = λ images of tells. fit_none images c.args.text.now.registry.now of;
}

pub bounds-prepared-i : goal.bounds-prepared-i
bounds-prepared-i g c =
    let long = as_long (IsPrepared c.args.text.now.segment.now) c.args.relation.now.queries c.args.prepared.now c.requires.prepared in
    omega (arith, long, c.loop-i-test.true, c.len-i-end.ensures, ap length c.queries-queries.ensures)

pub offset_bounds-prepared-i : goal.offset_bounds-prepared-i
offset_bounds-prepared-i g c =
    let long = as_long (IsPrepared c.args.text.now.segment.now) c.args.relation.now.queries c.args.prepared.now c.requires.prepared in
    omega (arith, long, c.loop-i-test.true, c.len-i-end.ensures, ap length c.queries-queries.ensures)

pub add_query-requires-clause-fits : goal.add_query-requires-clause-fits
add_query-requires-clause-fits g c = λ lifetimes outlive.
    let all = c.args.relation.now.queries in
    let q = c.get-query.result.now in
    let i = c.loop-i.i in
    all_at (Fits c.args.text.now.registry.now) all i q c.requires.fit (omega (arith, c.loop-i-test.true, c.len-i-end.ensures, ap length c.queries-queries.ensures)) (c.get-query.ensures ∙ ap (λ (qs : List Query). get_or qs i q) c.queries-queries.ensures)

pub add_query-requires-clause-prepared : goal.add_query-requires-clause-prepared
add_query-requires-clause-prepared g c = λ lifetimes outlive.
    let all = c.args.relation.now.queries in
    let q = c.get-query.result.now in
    let i = c.loop-i.i in
    both_at (IsPrepared c.args.text.now.segment.now) all c.args.prepared.now i q c.index-prepared-i.result c.requires.prepared (omega (arith, c.loop-i-test.true, c.len-i-end.ensures, ap length c.queries-queries.ensures))
    (c.get-query.ensures ∙ ap (λ (qs : List Query). get_or qs i q) c.queries-queries.ensures) c.index-prepared-i.is

pub add_query-requires-clause-known : goal.add_query-requires-clause-known
add_query-requires-clause-known g c = λ lifetimes outlive. still_known c.args.text.now.segment.now c.args.text.now.registry.now.ws_attr c.args.text.now.number c.args.collector.now c.loop-i.collector c.loop-i.invariant.only c.requires.known

pub returns-in_err-add_query-clause-only : goal.returns-in_err-add_query-clause-only
returns-in_err-add_query-clause-only g c = gives_more c.args.collector.now c.loop-i.collector c.add_query.new.collector c.loop-i.invariant.only c.add_query.ensures.only

pub returns-in_err-add_query-clause-too_many : goal.returns-in_err-add_query-clause-too_many
returns-in_err-add_query-clause-too_many g c =
    let all = c.args.relation.now.queries in
    let q = c.get-query.result.now in
    let i = c.loop-i.i in
    let text = c.args.text.now in
    let k : (images : Images) (of : Text) → Tells images text.registry.now text.segment.now text.number of → IsErrOf {T = Unit {0}} {E = CountError} (Err c.in_err-add_query.field-0.0) TooManyRows → SomeIsOver images text.registry.now of all =
    λ images of tells h.
    over_at images text.registry.now of all i q (omega (arith, c.loop-i-test.true, c.len-i-end.ensures, ap length c.queries-queries.ensures)) (c.get-query.ensures ∙ ap (λ (qs : List Query). get_or qs i q) c.queries-queries.ensures)
    (c.in_err-add_query.ensures.too_many images of tells h) in
    search (rules, k)

pub loop-i-preserved : goal.loop-i-preserved
loop-i-preserved g c =
    let all = c.args.relation.now.queries in
    let q = c.get-query.result.now in
    let i = c.loop-i.i in
    let text = c.args.text.now in
    let l : i < length all = omega (arith, c.loop-i-test.true, c.len-i-end.ensures, ap length c.queries-queries.ensures) in
    let at = c.get-query.ensures ∙ ap (λ (qs : List Query). get_or qs i q) c.queries-queries.ensures in
    record {
      only = gives_more c.args.collector.now c.loop-i.collector c.add_query.new.collector c.loop-i.invariant.only c.add_query.ensures.only;
      waiting = c.add_query.ensures.waiting;
      given = λ images of lines tells before.
          subst (λ (ls : List Line). MatchOption c.add_query.new.waiting (AreOfLines images text.registry.now of ls c.add_query.new.collector.given)
          (λ w. AreButOne images text.registry.now of text.segment.now text.number ls w.relation.now w.rows c.add_query.new.collector.given)) (lines_more c.args.relation.now lines i q l at)
          (c.in_ok-add_query.ensures.given images of _ tells (c.loop-i.invariant.given images of lines tells before));
      rows = c.add_query.ensures.rows;
      fit = λ images of tells. fit_more images text.registry.now of all i q l at (c.loop-i.invariant.fit images of tells) (c.in_ok-add_query.ensures.room images of tells);
    }

pub returns-clause-given : goal.returns-clause-given
returns-clause-given g c = λ images of lines tells before.
    subst (λ (ls : List Line). MatchOption c.loop-i.waiting (AreOfLines images c.args.text.now.registry.now of ls c.loop-i.collector.given)
    (λ w. AreButOne images c.args.text.now.registry.now of c.args.text.now.segment.now c.args.text.now.number ls w.relation.now w.rows c.loop-i.collector.given))
    (lines_whole c.args.relation.now lines c.loop-i.i (omega (arith, c.loop-i-test.false, c.len-i-end.ensures, ap length c.queries-queries.ensures))) (c.loop-i.invariant.given images of lines tells before)

pub returns-clause-room : goal.returns-clause-room
returns-clause-room g c = λ images of tells.
    fit_whole images c.args.text.now.registry.now of c.args.relation.now.queries c.loop-i.i (omega (arith, c.loop-i-test.false, c.len-i-end.ensures, ap length c.queries-queries.ensures)) (c.loop-i.invariant.fit images of tells)
