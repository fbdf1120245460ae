-- What is found in the groups so far.
use Rattle.std.proofs.Common.{◌≡◌, ◌-◌, ◌≤◌, length, take}
use Rattle.mt_match_spec.specs.Values.{Images}
use Rattle.mt_eval_spec.specs.Asked.{query_patterns}
use Rattle.mt_eval_spec.specs.RowsIn.{heads}
use Rattle.mt_corpus_spec.specs.Groups.{corpus_of}
use Rattle.mt_corpus_spec.specs.Images.{AreImagesBy}
use Rattle.mt_eval_spec.specs.Literals.{IsPlain}
use Rattle.mt_search.specs.Finds.{AreInOrder, Finds}
use Rattle.mt_search.proofs.Taken.{Taken}
use Rattle.mt_search.proofs.search.found_in.Given as goal

abbrev pub invariant-loop-i : goal.invariant-loop-i
invariant-loop-i g l =
    (length l.found.rooms ≡ length (heads l.query)) × AreInOrder l.found.rows l.found.texts × (l.patterns ≡ query_patterns l.query) × (g.P.PatternShop.refused l.shop ≡ g.P.PatternShop.refused l.initial.shop)
    × ((images : Images) → AreImagesBy images l.corpus.taken → Finds images l.corpus.registry (corpus_of (take l.i l.corpus.groups)) l.query l.found.rows l.found.rooms l.found.texts)
    × (l.initial.steps ≤ l.steps) × (IsPlain l.query → Taken l.query (take l.i l.segments) (l.steps - l.initial.steps))
