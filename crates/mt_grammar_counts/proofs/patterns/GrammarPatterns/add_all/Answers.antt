use Rattle.std.proofs.Common.{rules, ◌+◌, ◌<◌, ◌∙◌, List, length, get_or, ap, arith}
use Rattle.std.specs.List.{flat_map}
use Rattle.mt_text_spec.specs.Queries.{Relation}
use Rattle.mt_prepare.specs.Built.{Blames}
use Rattle.mt_grammar_counts.specs.Asked.{relation_patterns}
use Rattle.mt_grammar_counts.proofs.Parts.{mapped_more, part_fits}
use Rattle.mt_grammar_counts.proofs.Blaming.{blamed_at, count_more, its_patterns, whole_more}
use Rattle.mt_grammar_counts.proofs.patterns.GrammarPatterns.add_all.Goals as goal

pub add-requires : goal.add-requires
add-requires g c =
    let all = c.args.grammar.now.relations in
    let r = c.get.result.now in
    let i = c.loop-i.i in
    let l : i < length all = omega (arith, c.loop-i-test.true, c.len-i-end.ensures, ap length c.relations-relations.ensures) in
    let fits = part_fits its_patterns all i r l (c.get.ensures ∙ ap (λ (rs : List Relation). get_or rs i r) c.relations-relations.ensures) in
    omega (arith, c.loop-i.invariant.count, fits, c.requires.few)

pub returns-in_err-next-clause-blames : goal.returns-in_err-next-clause-blames
returns-in_err-next-clause-blames g c =
    let all = c.args.grammar.now.relations in
    let r = c.get.result.now in
    let i = c.loop-i.i in
    let refused = g.P.PatternShop.refused in
    let l : i < length all = omega (arith, c.loop-i-test.true, c.len-i-end.ensures, ap length c.relations-relations.ensures) in
    let k : Blames 1 (flat_map its_patterns all) (refused c.args.shop.now) (refused c.add.new.shop) c.in_err-next.field-0.0 =
    blamed_at its_patterns all i r 1 (c.loop-i.next + 1) (refused c.args.shop.now) (refused c.loop-i.shop) (refused c.add.new.shop) c.in_err-next.field-0.0 l
    (c.get.ensures ∙ ap (λ (rs : List Relation). get_or rs i r) c.relations-relations.ensures) (omega (arith, c.loop-i.invariant.count)) c.loop-i.invariant.whole c.loop-i.invariant.shop c.in_err-next.ensures.blames in
    search (rules, k)

pub loop-i-preserved : goal.loop-i-preserved
loop-i-preserved g c =
    let all = c.args.grammar.now.relations in
    let r = c.get.result.now in
    let i = c.loop-i.i in
    let l : i < length all = omega (arith, c.loop-i-test.true, c.len-i-end.ensures, ap length c.relations-relations.ensures) in
    let at = c.get.ensures ∙ ap (λ (rs : List Relation). get_or rs i r) c.relations-relations.ensures in
    let sum = count_more its_patterns all i r 0 c.loop-i.next c.in_ok-next.next l at (omega (arith, c.loop-i.invariant.count)) c.in_ok-next.ensures.next in
    record {
      texts = mapped_more relation_patterns all i r c.loop-i.self c.add.new.self l at c.loop-i.invariant.texts c.in_ok-next.ensures.texts;
      count = omega (arith, sum);
      whole = whole_more its_patterns all i r l at c.loop-i.invariant.whole c.in_ok-next.ensures.patterns;
      shop = c.in_ok-next.ensures.kept ∙ c.loop-i.invariant.shop;
    }
