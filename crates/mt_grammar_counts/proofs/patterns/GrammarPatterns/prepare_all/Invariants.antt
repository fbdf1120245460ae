-- The queries of the relations so far are ready.
use Rattle.std.proofs.Common.{◌≡◌, take}
use Rattle.std.specs.List.{AllZip, flat_map}
use Rattle.mt_prepare.specs.KnownSpans.{AreSpansKnown}
use Rattle.mt_prepare.specs.Prepared.{IsPrepared}
use Rattle.mt_grammar_counts.proofs.patterns.GrammarPatterns.prepare_all.Given as goal

abbrev pub invariant-loop-i : goal.invariant-loop-i
invariant-loop-i g l = record {
  ready : AllZip (IsPrepared l.segment) (flat_map (λ relation. relation.queries) (take l.i l.grammar.relations)) l.prepared;
  spans : AreSpansKnown l.segment l.spans;
  texts : l.self ≡ l.initial.self;
  shop : g.P.PatternShop.refused l.shop ≡ g.P.PatternShop.refused l.initial.shop;
}
