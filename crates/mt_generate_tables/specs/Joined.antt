-- The instances of a generated text, and the tables of a text of three columns, put together.
use Rattle.std.specs.Prelude.{◌≡◌, ℕ, List, [], ◌∷◌, map}
use Rattle.std.specs.List.{range_with_len}
use Rattle.mt_text_spec.specs.Texts.{StructSpan, Token}
use Rattle.mt_generate_spec.specs.Generated.{document, sentence, sentence_count}
use Rattle.mt_segment_spec.specs.Tables.{AreBaseTables, AttrTables, Tables}
use Rattle.mt_generate_tables.specs.Coded.{values_of}

-- the instances of each kind are those of one text
abbrev pub tables_of : List (List ℕ × ℕ) → List (List StructSpan) → AttrTables → AttrTables → AttrTables → Tables
tables_of texts structs word tag lemma = record {
  texts = texts;
  attrs = word ∷ tag ∷ lemma ∷ [];
  structs = map (λ instances. instances ∷ []) structs;
}

-- the tables of the words, the tags and the lemmas of tokens
pub record AreColumnTables (tokens : List Token) (word tag lemma : AttrTables) : Type 0 where
  pub words : AreBaseTables (values_of 0 tokens) word
  pub tags : AreBaseTables (values_of 1 tokens) tag
  pub lemmas : AreBaseTables (values_of 2 tokens) lemma

-- the instances of each kind in a generated text of this name that has so many tokens: the document, the sentences, and no glue
abbrev pub AreInstances : List ℕ → ℕ → List (List StructSpan) → Type 0
AreInstances name tokens lists = lists ≡ (document name tokens ∷ []) ∷ map (sentence tokens) (range_with_len 0 (sentence_count tokens)) ∷ [] ∷ []
