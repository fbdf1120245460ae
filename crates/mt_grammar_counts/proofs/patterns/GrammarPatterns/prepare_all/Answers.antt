use Rattle.std.proofs.Common.{◌<◌, ◌∙◌, List, [], length, get_or, refl, ap, arith, subst, sym}
use Rattle.std.specs.List.{AllZip}
use Rattle.mt_text_spec.specs.Queries.{Query, Relation}
use Rattle.mt_prepare.specs.Prepared.{IsPrepared}
use Rattle.mt_prepare.specs.declared.prepared.Prepared.{Prepared}
use Rattle.mt_grammar_counts.proofs.Parts.{parts_more, parts_whole}
use Rattle.mt_grammar_counts.proofs.patterns.GrammarPatterns.prepare_all.Goals as goal

pub loop-i-init : goal.loop-i-init
loop-i-init g c = record {
  ready = subst (λ (ps : List Prepared). AllZip (IsPrepared c.args.segment.now) [] ps) (sym c.clear.ensures) tt;
  spans = c.turn.ensures.known c.args.segment.now;
  texts = refl;
  shop = refl;
}

pub loop-i-preserved : goal.loop-i-preserved
loop-i-preserved g c =
    let all = c.args.grammar.now.relations in
    let r = c.get-relation.result.now in
    let i = c.loop-i.i in
    let l : i < length all = omega (arith, c.loop-i-test.true, c.len-i-end.ensures, ap length c.relations-relations.ensures) in
    let at = c.get-relation.ensures ∙ ap (λ (rs : List Relation). get_or rs i r) c.relations-relations.ensures in
    record {
      ready = subst (λ (qs : List Query). AllZip (IsPrepared c.args.segment.now) qs c.prepare.new.prepared) (sym (parts_more (λ (relation : Relation). relation.queries) all i r l at)) (c.in_ok-prepare.ensures.prepared _ c.loop-i.invariant.ready);
      spans = c.prepare.ensures.spans;
      texts = c.prepare.ensures.texts ∙ c.loop-i.invariant.texts;
      shop = c.prepare.ensures.kept ∙ c.loop-i.invariant.shop;
    }

pub returns-clause-prepared : goal.returns-clause-prepared
returns-clause-prepared g c =
    subst (λ (qs : List Query). AllZip (IsPrepared c.args.segment.now) qs c.loop-i.prepared)
    (parts_whole (λ (relation : Relation). relation.queries) c.args.grammar.now.relations c.loop-i.i (omega (arith, c.loop-i-test.false, c.len-i-end.ensures, ap length c.relations-relations.ensures))) c.loop-i.invariant.ready
