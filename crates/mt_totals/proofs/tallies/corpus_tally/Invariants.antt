-- The rows and spans in the groups so far are counted, and are not too many.
use Rattle.std.proofs.Common.{◌≡◌, ◌-◌, ◌≤◌, take}
use Rattle.mt_match_spec.specs.Kept.{operand_rows_limit}
use Rattle.mt_match_spec.specs.Values.{Images}
use Rattle.mt_eval_spec.specs.Asked.{query_patterns}
use Rattle.mt_eval_spec.specs.Literals.{IsPlain}
use Rattle.mt_corpus_spec.specs.Groups.{corpus_of}
use Rattle.mt_corpus_spec.specs.Images.{AreImagesBy}
use Rattle.mt_search.proofs.Taken.{Taken}
use Rattle.mt_totals.specs.Tallies.{HasTally}
use Rattle.mt_totals.proofs.tallies.corpus_tally.Given as goal

abbrev pub invariant-loop-i : goal.invariant-loop-i
invariant-loop-i g l =
    record {
      tally : (images : Images) → AreImagesBy images l.corpus.taken → HasTally images l.corpus.registry (corpus_of (take l.i l.corpus.groups)) l.query l.rows l.spans;
      few : l.rows ≤ operand_rows_limit;
      spans : l.spans ≤ l.rows;
      patterns : l.patterns ≡ query_patterns l.query;
      shop : g.P.PatternShop.refused l.shop ≡ g.P.PatternShop.refused l.initial.shop;
      rises : l.initial.steps ≤ l.steps;
      takes : IsPlain l.query → Taken l.query (take l.i l.segments) (l.steps - l.initial.steps);
    }
