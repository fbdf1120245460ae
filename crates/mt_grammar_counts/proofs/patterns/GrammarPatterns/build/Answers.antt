use Rattle.std.proofs.Common.{rules}
use Rattle.mt_prepare.specs.Built.{Blames}
use Rattle.mt_grammar_counts.specs.Asked.{grammar_patterns}
use Rattle.mt_grammar_counts.proofs.Blaming.{blames_all, few_patterns, whole_all}
use Rattle.mt_grammar_counts.proofs.patterns.GrammarPatterns.build.Goals as goal

pub add_all-requires-clause-few : goal.add_all-requires-clause-few
add_all-requires-clause-few g c = few_patterns c.contents_are_few.ensures.patterns c.grammar_queries_are_in_order.ensures.nodes c.requires.registry c.args.grammar.now c.requires.valid

pub returns-in_err-add_all-clause-blames : goal.returns-in_err-add_all-clause-blames
returns-in_err-add_all-clause-blames g c =
    let refused = g.P.PatternShop.refused in
    let k : Blames 1 (grammar_patterns c.args.grammar.now) (refused c.args.shop.now) (refused c.add_all.new.shop) c.in_err-add_all.field-0.0 =
    blames_all c.args.grammar.now (refused c.args.shop.now) (refused c.add_all.new.shop) c.in_err-add_all.field-0.0 c.in_err-add_all.ensures.blames in
    search (rules, k)

pub returns-clause-patterns : goal.returns-clause-patterns
returns-clause-patterns g c = whole_all c.args.grammar.now c.in_ok-add_all.ensures.patterns
