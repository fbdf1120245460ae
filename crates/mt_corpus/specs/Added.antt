-- What is kept of a text that is added.
use Rattle.std.specs.Prelude.{length}
use Rattle.mt_text_spec.specs.Texts.{Text, ValidText}
use Rattle.mt_segment_spec.specs.Tables.{Tables}
use Rattle.mt_corpus_spec.specs.Groups.{HoldsName, IsFull}
use Rattle.mt_corpus_spec.specs.Images.{Corpus}
use Rattle.mt_corpus.specs.Held.{IsMadeOf}

-- A text may be kept by these tables: it is valid, the tables are its own, its name is free, and there is room for it.
pub record MayBeKept (corpus : Corpus) (text : Text) (tables : Tables) : Type 0 where
  pub valid : ValidText corpus.registry text
  pub made : IsMadeOf corpus.registry text tables
  pub free : HoldsName corpus.groups text.name → ⊥
  pub room : IsFull corpus.groups (length text.tokens) → ⊥

-- these are the tables of some text that may be kept
pub record SomeMayBeKept (corpus : Corpus) (tables : Tables) : Type 0 where
  pub text : Text
  pub may : MayBeKept corpus text tables
