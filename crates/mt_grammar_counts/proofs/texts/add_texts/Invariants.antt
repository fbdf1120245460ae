-- The texts so far are counted.
use Rattle.std.proofs.Common.{List, ◌++◌, take}
use Rattle.mt_text_spec.specs.Texts.{Text}
use Rattle.mt_match_spec.specs.Values.{Images}
use Rattle.mt_count_spec.specs.Counts.{HasRoom}
use Rattle.mt_triples.specs.CountsOf.{AreCountsOf}
use Rattle.mt_prepare.specs.KnownRows.{AreKnownIn}
use Rattle.mt_grammar_counts.specs.Collecting.{IsFresh}
use Rattle.mt_grammar_counts.specs.Told.{TellAll}
use Rattle.mt_grammar_counts.proofs.texts.add_texts.Given as goal

abbrev pub invariant-loop-k : goal.invariant-loop-k
invariant-loop-k g l = record {
  fresh : IsFresh l.segment l.registry.ws_attr l.collector;
  rows : AreKnownIn l.segment l.scratch.lists.known;
  counts : (images : Images) (of done : List Text) → TellAll images l.registry l.segment l.numbers of → AreCountsOf images l.registry l.grammar done l.initial.collector.counted → AreCountsOf images l.registry l.grammar (done ++ take l.k of) l.collector.counted;
  room : (images : Images) (of : List Text) → TellAll images l.registry l.segment l.numbers of → HasRoom images l.registry l.grammar (take l.k of);
}
