-- The queries that are ready so far stand behind the others.
use Rattle.std.proofs.Common.{◌≡◌, List, ◌++◌, take}
use Rattle.std.specs.List.{AllZip}
use Rattle.mt_text_spec.specs.Queries.{Query}
use Rattle.mt_prepare.specs.KnownSpans.{AreSpansKnown}
use Rattle.mt_prepare.specs.Prepared.{IsPrepared}
use Rattle.mt_grammar_counts.proofs.patterns.RelationPatterns.prepare_all.Given as goal

abbrev pub invariant-loop-i : goal.invariant-loop-i
invariant-loop-i g l = record {
  ready : (before : List Query) → AllZip (IsPrepared l.segment) before l.initial.prepared → AllZip (IsPrepared l.segment) (before ++ take l.i l.relation.queries) l.prepared;
  spans : AreSpansKnown l.segment l.spans;
  texts : l.self ≡ l.initial.self;
  shop : g.P.PatternShop.refused l.shop ≡ g.P.PatternShop.refused l.initial.shop;
}
