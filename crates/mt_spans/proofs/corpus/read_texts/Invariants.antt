-- The texts so far are valid together.
use Rattle.mt_text_spec.specs.Texts.{ValidCorpus}
use Rattle.mt_spans.proofs.corpus.read_texts.Given as goal

abbrev pub invariant-loop-vertical : goal.invariant-loop-vertical
invariant-loop-vertical l = ValidCorpus l.registry l.texts.items
