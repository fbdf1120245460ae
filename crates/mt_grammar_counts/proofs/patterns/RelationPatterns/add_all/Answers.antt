use Rattle.std.proofs.Common.{rules, ◌+◌, ◌<◌, ◌∙◌, List, length, get_or, ap, arith}
use Rattle.std.specs.List.{flat_map}
use Rattle.mt_text_spec.specs.Queries.{Query}
use Rattle.mt_eval_spec.specs.Asked.{query_patterns}
use Rattle.mt_prepare.specs.Built.{Blames}
use Rattle.mt_grammar_counts.proofs.Parts.{mapped_more, part_fits}
use Rattle.mt_grammar_counts.proofs.Blaming.{blamed_at, count_more, whole_more}
use Rattle.mt_grammar_counts.proofs.patterns.RelationPatterns.add_all.Goals as goal

pub add-requires : goal.add-requires
add-requires g c =
    let all = c.args.relation.now.queries in
    let q = c.get-query.result.now in
    let i = c.loop-i.i in
    let l : i < length all = omega (arith, c.loop-i-test.true, c.len-i-end.ensures, ap length c.queries-queries.ensures) in
    let fits = part_fits query_patterns all i q l (c.get-query.ensures ∙ ap (λ (qs : List Query). get_or qs i q) c.queries-queries.ensures) in
    omega (arith, c.loop-i.invariant.count, fits, c.requires.few)

pub returns-in_err-add-clause-blames : goal.returns-in_err-add-clause-blames
returns-in_err-add-clause-blames g c =
    let all = c.args.relation.now.queries in
    let q = c.get-query.result.now in
    let i = c.loop-i.i in
    let refused = g.P.PatternShop.refused in
    let l : i < length all = omega (arith, c.loop-i-test.true, c.len-i-end.ensures, ap length c.queries-queries.ensures) in
    let k : Blames (c.args.before + 1) (flat_map query_patterns all) (refused c.args.shop.now) (refused c.add.new.shop) c.in_err-add.field-0.0 =
    blamed_at query_patterns all i q (c.args.before + 1) (c.loop-i.next + 1) (refused c.args.shop.now) (refused c.loop-i.shop) (refused c.add.new.shop) c.in_err-add.field-0.0 l
    (c.get-query.ensures ∙ ap (λ (qs : List Query). get_or qs i q) c.queries-queries.ensures) (omega (arith, c.loop-i.invariant.count)) c.loop-i.invariant.whole c.loop-i.invariant.shop c.in_err-add.ensures.blames in
    search (rules, k)

pub pattern_count-next-requires : goal.pattern_count-next-requires
pattern_count-next-requires g c =
    let all = c.args.relation.now.queries in
    let q = c.get-query.result.now in
    let i = c.loop-i.i in
    let l : i < length all = omega (arith, c.loop-i-test.true, c.len-i-end.ensures, ap length c.queries-queries.ensures) in
    let fits = part_fits query_patterns all i q l (c.get-query.ensures ∙ ap (λ (qs : List Query). get_or qs i q) c.queries-queries.ensures) in
    omega (arith, fits, c.requires.few)

pub overflow_add-next : goal.overflow_add-next
overflow_add-next g c =
    let all = c.args.relation.now.queries in
    let q = c.get-query.result.now in
    let i = c.loop-i.i in
    let l : i < length all = omega (arith, c.loop-i-test.true, c.len-i-end.ensures, ap length c.queries-queries.ensures) in
    let fits = part_fits query_patterns all i q l (c.get-query.ensures ∙ ap (λ (qs : List Query). get_or qs i q) c.queries-queries.ensures) in
    let below : c.loop-i.next + c.pattern_count-next.result < 4294967296 = omega (arith, c.loop-i.invariant.count, fits, c.requires.few, c.pattern_count-next.ensures) in
    search (rules, below)

pub loop-i-preserved : goal.loop-i-preserved
loop-i-preserved g c =
    let all = c.args.relation.now.queries in
    let q = c.get-query.result.now in
    let i = c.loop-i.i in
    let l : i < length all = omega (arith, c.loop-i-test.true, c.len-i-end.ensures, ap length c.queries-queries.ensures) in
    let at = c.get-query.ensures ∙ ap (λ (qs : List Query). get_or qs i q) c.queries-queries.ensures in
    record {
      texts = mapped_more query_patterns all i q c.loop-i.self c.add.new.self l at c.loop-i.invariant.texts c.in_ok-add.ensures.texts;
      count = count_more query_patterns all i q c.args.before c.loop-i.next (c.loop-i.next + c.pattern_count-next.result) l at c.loop-i.invariant.count (omega (arith, c.pattern_count-next.ensures));
      whole = whole_more query_patterns all i q l at c.loop-i.invariant.whole c.in_ok-add.ensures.patterns;
      shop = c.in_ok-add.ensures.kept ∙ c.loop-i.invariant.shop;
    }
