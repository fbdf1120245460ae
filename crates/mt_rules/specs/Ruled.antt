-- A sketch grammar that is held over a corpus.
use Rattle.mt_text_spec.specs.Queries.{Grammar}
use Rattle.mt_match_spec.specs.Values.{Images}
use Rattle.mt_count_spec.specs.Counts.{HasRoom}
use Rattle.mt_grammar_spec.specs.ValidGrammar.{ValidGrammar}
use Rattle.mt_counts.specs.Counted.{Counted}
use Rattle.mt_triples.specs.CountsOf.{AreCountsOf}
use Rattle.mt_corpus_spec.specs.Groups.{corpus_of}
use Rattle.mt_corpus_spec.specs.Images.{Corpus, AreImagesBy}

-- a grammar, and what it counts
pub record Ruled : Type 0 where
  pub grammar : Grammar
  pub counted : Counted

-- The grammar is held over this corpus: it is valid under the registry, what it counts are its counts over the texts, and none of its queries has too many rows in a
-- text by itself, whatever the images that agree with those taken.
pub record AreOver (corpus : Corpus) (ruled : Ruled) : Type 0 where
  pub valid : ValidGrammar corpus.registry ruled.grammar
  pub counts : (images : Images) → AreImagesBy images corpus.taken → AreCountsOf images corpus.registry ruled.grammar (corpus_of corpus.groups) ruled.counted
  pub room : (images : Images) → AreImagesBy images corpus.taken → HasRoom images corpus.registry ruled.grammar (corpus_of corpus.groups)
