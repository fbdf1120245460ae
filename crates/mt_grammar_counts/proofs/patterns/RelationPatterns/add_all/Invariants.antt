-- The patterns of the queries so far.
use Rattle.std.proofs.Common.{◌≡◌, ◌+◌, length, map, take}
use Rattle.std.specs.List.{All, flat_map}
use Rattle.mt_eval_spec.specs.Asked.{query_patterns}
use Rattle.mt_prepare.specs.Built.{IsWhole}
use Rattle.mt_grammar_counts.proofs.patterns.RelationPatterns.add_all.Given as goal

abbrev pub invariant-loop-i : goal.invariant-loop-i
invariant-loop-i g l = record {
  texts : l.self ≡ map query_patterns (take l.i l.relation.queries);
  count : l.next ≡ l.before + length (flat_map query_patterns (take l.i l.relation.queries));
  whole : All IsWhole (flat_map query_patterns (take l.i l.relation.queries));
  shop : g.P.PatternShop.refused l.shop ≡ g.P.PatternShop.refused l.initial.shop;
}
