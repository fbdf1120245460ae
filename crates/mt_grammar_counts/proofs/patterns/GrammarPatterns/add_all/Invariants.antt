-- The patterns of the relations so far.
use Rattle.std.proofs.Common.{◌≡◌, length, map, take}
use Rattle.std.specs.List.{All, flat_map}
use Rattle.mt_prepare.specs.Built.{IsWhole}
use Rattle.mt_grammar_counts.specs.Asked.{relation_patterns}
use Rattle.mt_grammar_counts.proofs.Blaming.{its_patterns}
use Rattle.mt_grammar_counts.proofs.patterns.GrammarPatterns.add_all.Given as goal

abbrev pub invariant-loop-i : goal.invariant-loop-i
invariant-loop-i g l = record {
  texts : l.self ≡ map relation_patterns (take l.i l.grammar.relations);
  count : l.next ≡ length (flat_map its_patterns (take l.i l.grammar.relations));
  whole : All IsWhole (flat_map its_patterns (take l.i l.grammar.relations));
  shop : g.P.PatternShop.refused l.shop ≡ g.P.PatternShop.refused l.initial.shop;
}
