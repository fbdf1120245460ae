use Rattle.std.proofs.Common.{rules, ◌≡◌, ◌+◌, ◌<◌, ◌≤◌, ◌∙◌, List, [], ◌∷◌, length, length-append, take, get_or, Err, IsErrOf, refl, sym, ap, subst, arith}
use Rattle.std.specs.Prelude.{MatchOption}
use Rattle.std.specs.List.{flat_map, slice_range}
use Rattle.mt_text_spec.specs.Texts.{Text}
use Rattle.mt_text_spec.specs.Queries.{Query, Relation}
use Rattle.mt_match_spec.specs.Values.{Images}
use Rattle.mt_instances.specs.Laws.{AreOfLines, Line}
use Rattle.mt_prepare.specs.Prepared.{IsPrepared}
use Rattle.mt_grammar_counts.specs.Collecting.{AreButOne, lines_of}
use Rattle.mt_grammar_counts.specs.Told.{AllFit, HasNoRoom, Tells}
use Rattle.mt_grammar_counts.specs.declared.error.CountError.{CountError}
use Rattle.mt_grammar_counts.specs.declared.error.CountError.TheVariants.{TooManyRows}
use Rattle.mt_grammar_counts.proofs.Parts.{all_at, as_long, part_fits, part_zipped, parts_more, parts_whole}
use Rattle.mt_grammar_counts.proofs.LineLists.{all_more, all_none, all_room, gives_more, gives_none, no_room_at, still_known}
use Rattle.mt_grammar_counts.proofs.lines.add_lines.Goals.{After-len}
use Rattle.mt_grammar_counts.proofs.lines.add_lines.Given as given
use Rattle.mt_grammar_counts.proofs.lines.add_lines.Goals as goal

-- the queries of a relation
abbrev queries_of : Relation → List Query
queries_of relation = relation.queries

pub loop-i-init : goal.loop-i-init
loop-i-init g c = record {
  only = gives_none c.args.collector.now;
  waiting = tt;
  from = refl;
  given = λ images of tells before. before;
  rows = c.requires.rows;
  fit = λ images of tells. all_none images c.args.text.now.registry.now of;
}

-- the queries of the relation and of those before it are not more than are ready
inside : (g : given.Over) (c : After-len g) → c.loop-i.from + c.len.result ≤ length c.args.prepared.now
inside g c =
    let all = c.args.grammar.now.relations in
    let r = c.get-relation.result.now in
    let i = c.loop-i.i in
    let l : i < length all = omega (arith, c.loop-i-test.true, c.len-i-end.ensures, ap length c.relations-relations.ensures) in
    let fits = part_fits queries_of all i r l (c.get-relation.ensures ∙ ap (λ (rs : List Relation). get_or rs i r) c.relations-relations.ensures) in
    let long = as_long (IsPrepared c.args.text.now.segment.now) (flat_map queries_of all) c.args.prepared.now c.requires.prepared in
    omega (arith, fits, long, c.loop-i.invariant.from, c.len.ensures, ap length c.queries.ensures)

pub overflow_add-behind : goal.overflow_add-behind
overflow_add-behind g c = omega (arith, inside g (goal.at.overflow_add-behind g c).After-len)

pub offset_bounds-prepared-from : goal.offset_bounds-prepared-from
offset_bounds-prepared-from g c = omega (arith, inside g (goal.at.offset_bounds-prepared-from g c).After-len)

pub slice_bounds-ready-end : goal.slice_bounds-ready-end
slice_bounds-ready-end g c = inside g (goal.at.slice_bounds-ready-end g c).After-len

pub add_relation-requires-clause-fit : goal.add_relation-requires-clause-fit
add_relation-requires-clause-fit g c = λ lifetimes outlive.
    let all = c.args.grammar.now.relations in
    let r = c.get-relation.result.now in
    let i = c.loop-i.i in
    all_at (AllFit c.args.text.now.registry.now) all i r c.requires.fit (omega (arith, c.loop-i-test.true, c.len-i-end.ensures, ap length c.relations-relations.ensures)) (c.get-relation.ensures ∙ ap (λ (rs : List Relation). get_or rs i r) c.relations-relations.ensures)

pub add_relation-requires-clause-prepared : goal.add_relation-requires-clause-prepared
add_relation-requires-clause-prepared g c = λ lifetimes outlive.
    let all = c.args.grammar.now.relations in
    let r = c.get-relation.result.now in
    let i = c.loop-i.i in
    let l : i < length all = omega (arith, c.loop-i-test.true, c.len-i-end.ensures, ap length c.relations-relations.ensures) in
    let count : c.len.result ≡ length r.queries = omega (arith, c.len.ensures, ap length c.queries.ensures) in
    part_zipped queries_of (IsPrepared c.args.text.now.segment.now) all c.args.prepared.now (slice_range c.args.prepared.now c.loop-i.from (c.loop-i.from + c.len.result)) i c.loop-i.from r l (c.get-relation.ensures ∙ ap (λ (rs : List Relation). get_or rs i r) c.relations-relations.ensures) c.loop-i.invariant.from
    (ap (λ n. slice_range c.args.prepared.now c.loop-i.from (c.loop-i.from + n)) count) c.requires.prepared

pub add_relation-requires-clause-known : goal.add_relation-requires-clause-known
add_relation-requires-clause-known g c = λ lifetimes outlive. still_known c.args.text.now.segment.now c.args.text.now.registry.now.ws_attr c.args.text.now.number c.args.collector.now c.loop-i.collector c.loop-i.invariant.only c.requires.known

pub returns-in_err-add_relation-clause-only : goal.returns-in_err-add_relation-clause-only
returns-in_err-add_relation-clause-only g c = gives_more c.args.collector.now c.loop-i.collector c.add_relation.new.collector c.loop-i.invariant.only c.add_relation.ensures.only

pub returns-in_err-add_relation-clause-too_many : goal.returns-in_err-add_relation-clause-too_many
returns-in_err-add_relation-clause-too_many g c =
    let all = c.args.grammar.now.relations in
    let r = c.get-relation.result.now in
    let i = c.loop-i.i in
    let text = c.args.text.now in
    let k : (images : Images) (of : Text) → Tells images text.registry.now text.segment.now text.number of → IsErrOf {T = Unit {0}} {E = CountError} (Err c.in_err-add_relation.field-0.0) TooManyRows → HasNoRoom images text.registry.now c.args.grammar.now (of ∷ []) =
    λ images of tells h.
    no_room_at images text.registry.now of c.args.grammar.now i r (omega (arith, c.loop-i-test.true, c.len-i-end.ensures, ap length c.relations-relations.ensures)) (c.get-relation.ensures ∙ ap (λ (rs : List Relation). get_or rs i r) c.relations-relations.ensures)
    (c.in_err-add_relation.ensures.too_many images of tells h) in
    search (rules, k)

pub loop-i-preserved : goal.loop-i-preserved
loop-i-preserved g c =
    let all = c.args.grammar.now.relations in
    let r = c.get-relation.result.now in
    let i = c.loop-i.i in
    let text = c.args.text.now in
    let l : i < length all = omega (arith, c.loop-i-test.true, c.len-i-end.ensures, ap length c.relations-relations.ensures) in
    let at = c.get-relation.ensures ∙ ap (λ (rs : List Relation). get_or rs i r) c.relations-relations.ensures in
    record {
      only = gives_more c.args.collector.now c.loop-i.collector c.add_relation.new.collector c.loop-i.invariant.only c.add_relation.ensures.only;
      from = omega (arith, ap length (parts_more queries_of all i r l at), length-append (flat_map queries_of (take i all)) r.queries, c.loop-i.invariant.from, c.len.ensures, ap length c.queries.ensures);
      waiting = c.add_relation.ensures.waiting;
      given = λ images of tells before.
          subst (λ (ls : List Line). MatchOption c.add_relation.new.waiting (AreOfLines images text.registry.now of ls c.add_relation.new.collector.given)
          (λ w. AreButOne images text.registry.now of text.segment.now text.number ls w.relation.now w.rows c.add_relation.new.collector.given)) (sym (parts_more lines_of all i r l at))
          (c.in_ok-add_relation.ensures.given images of _ tells (c.loop-i.invariant.given images of tells before));
      rows = c.add_relation.ensures.rows;
      fit = λ images of tells. all_more images text.registry.now of all i r l at (c.loop-i.invariant.fit images of tells) (c.in_ok-add_relation.ensures.room images of tells);
    }

pub tell_last-requires-clause-known : goal.tell_last-requires-clause-known
tell_last-requires-clause-known g c = still_known c.args.text.now.segment.now c.args.text.now.registry.now.ws_attr c.args.text.now.number c.args.collector.now c.loop-i.collector c.loop-i.invariant.only c.requires.known

pub returns-in_err-tell_last-clause-only : goal.returns-in_err-tell_last-clause-only
returns-in_err-tell_last-clause-only g c = gives_more c.args.collector.now c.loop-i.collector c.tell_last.new.collector c.loop-i.invariant.only c.tell_last.ensures.only

pub returns-clause-only : goal.returns-clause-only
returns-clause-only g c = gives_more c.args.collector.now c.loop-i.collector c.tell_last.new.collector c.loop-i.invariant.only c.tell_last.ensures.only

pub returns-clause-given : goal.returns-clause-given
returns-clause-given g c = λ images of tells before.
    subst (λ (ls : List Line). AreOfLines images c.args.text.now.registry.now of ls c.tell_last.new.collector.given)
    (parts_whole lines_of c.args.grammar.now.relations c.loop-i.i (omega (arith, c.loop-i-test.false, c.len-i-end.ensures, ap length c.relations-relations.ensures)))
    (c.in_ok-tell_last.ensures.given images of _ tells (c.loop-i.invariant.given images of tells before))

pub returns-clause-room : goal.returns-clause-room
returns-clause-room g c = λ images of tells.
    all_room images c.args.text.now.registry.now of c.args.grammar.now c.loop-i.i (omega (arith, c.loop-i-test.false, c.len-i-end.ensures, ap length c.relations-relations.ensures)) (c.loop-i.invariant.fit images of tells)
