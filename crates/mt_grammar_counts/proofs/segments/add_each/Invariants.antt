-- The groups so far are counted.
use Rattle.std.proofs.Common.{◌≡◌, take}
use Rattle.mt_match_spec.specs.Values.{Images}
use Rattle.mt_count_spec.specs.Counts.{HasRoom}
use Rattle.mt_triples.specs.CountsOf.{AreCountsOf}
use Rattle.mt_corpus_spec.specs.Groups.{corpus_of}
use Rattle.mt_corpus_spec.specs.Images.{AreImagesBy}
use Rattle.mt_grammar_counts.proofs.segments.add_each.Given as goal

abbrev pub invariant-loop-i : goal.invariant-loop-i
invariant-loop-i g l = record {
  patterns : l.patterns ≡ l.initial.patterns;
  shop : g.P.PatternShop.refused l.shop ≡ g.P.PatternShop.refused l.initial.shop;
  counts : (images : Images) → AreImagesBy images l.corpus.taken → AreCountsOf images l.corpus.registry l.grammar (corpus_of (take l.i l.corpus.groups)) l.triples;
  room : (images : Images) → AreImagesBy images l.corpus.taken → HasRoom images l.corpus.registry l.grammar (corpus_of (take l.i l.corpus.groups));
}
