use Rattle.std.proofs.Common.{◌<◌, ◌∙◌, List, ◌++◌, length, get_or, refl, ap, arith, subst, sym}
use Rattle.std.specs.List.{AllZip}
use Rattle.std.proofs.lemmas.List.{append-nil, take_all}
use Rattle.mt_text_spec.specs.Queries.{Query}
use Rattle.mt_prepare.specs.Prepared.{IsPrepared}
use Rattle.mt_grammar_counts.proofs.Parts.{behind_more}
use Rattle.mt_grammar_counts.proofs.patterns.RelationPatterns.prepare_all.Goals as goal

pub loop-i-init : goal.loop-i-init
loop-i-init g c = record {
  ready = λ before all. subst (λ (qs : List Query). AllZip (IsPrepared c.args.segment.now) qs c.args.prepared.now) (sym (append-nil before)) all;
  spans = c.requires.spans;
  texts = refl;
  shop = refl;
}

pub loop-i-preserved : goal.loop-i-preserved
loop-i-preserved g c =
    let all = c.args.relation.now.queries in
    let q = c.get-query.result.now in
    let i = c.loop-i.i in
    let l : i < length all = omega (arith, c.loop-i-test.true, c.len-i-end.ensures, ap length c.queries-queries.ensures) in
    record {
      ready = λ before old. behind_more (IsPrepared c.args.segment.now) before all c.loop-i.prepared c.prepare.new.prepared i q l (c.get-query.ensures ∙ ap (λ (qs : List Query). get_or qs i q) c.queries-queries.ensures) c.in_ok-prepare.ensures.prepared
          (c.loop-i.invariant.ready before old);
      spans = c.prepare.ensures.spans;
      texts = c.prepare.ensures.texts ∙ c.loop-i.invariant.texts;
      shop = c.prepare.ensures.kept ∙ c.loop-i.invariant.shop;
    }

pub returns-clause-prepared : goal.returns-clause-prepared
returns-clause-prepared g c = λ before old.
    let all = c.args.relation.now.queries in
    subst (λ (qs : List Query). AllZip (IsPrepared c.args.segment.now) (before ++ qs) c.loop-i.prepared) (take_all c.loop-i.i all (omega (arith, c.loop-i-test.false, c.len-i-end.ensures, ap length c.queries-queries.ensures)))
    (c.loop-i.invariant.ready before old)
