-- What a text and a corpus are, apart from how they are kept, and when they are valid under a registry.
use Rattle.std.specs.Prelude.{ℕ, ◌≡◌, ◌≢◌, ◌<◌, ◌≤◌, ◌⊎◌, List, [], length, map, sum, slice_get, slice_index_or, IsUtf8, Some}
use Rattle.std.specs.List.{All, AllPairs, flat_map}
use Rattle.mt_text_spec.specs.Words.{IsName}
use Rattle.mt_text_spec.specs.Registries.{Registry, Kind, base_count, AreDistinct}

-- a token has one value for each base attribute, in order of declaration
pub record Token : Type 0 where
  pub values : List (List ℕ)

-- An instance of a structure: the number of its kind, the places in its text where it begins and where it ends, that is the number of tokens before either,
-- and one value for each attribute of its kind.
pub record StructSpan : Type 0 where
  pub kind : ℕ
  pub begin : ℕ
  pub end : ℕ
  pub values : List (List ℕ)

-- a text has a name, its tokens in order, and its instances of structures
pub record Text : Type 0 where
  pub name : List ℕ
  pub tokens : List Token
  pub structs : List StructSpan

-- the value of a token at a base attribute, by the attribute's place among the base attributes
abbrev pub value_of : Token → ℕ → List ℕ
value_of token column = slice_index_or token.values column []

-- a corpus is a list of texts; its tokens are those of all texts in order
abbrev pub tokens_of : List Text → List Token
tokens_of corpus = flat_map (λ text. text.tokens) corpus

-- a run of tokens of one text, by the text's number: from the token at `begin` on, before that at `end`
pub record Span : Type 0 where
  pub text : ℕ
  pub begin : ℕ
  pub end : ℕ

-- a place that no label has
abbrev pub unset : ℕ
unset = 4294967295

-- a span with the places of the labels 1 to 9
pub record Row : Type 0 where
  pub span : Span
  pub labels : List ℕ

-- ## Valid texts

-- the most bytes of a value
abbrev pub value_bytes_limit : ℕ
value_bytes_limit = 1024

-- a value is UTF-8 of at most so many bytes, without line feed and tab
pub record ValidValue (value : List ℕ) : Type 0 where
  pub text : IsUtf8 value
  pub short : length value ≤ value_bytes_limit
  pub plain : All (λ b. (b ≢ 10) × (b ≢ 9)) value

-- a token has one valid value for each base attribute
pub record ValidToken (registry : Registry) (token : Token) : Type 0 where
  pub count : length token.values ≡ base_count registry.attrs
  pub each : All ValidValue token.values

-- an instance in a text of so many tokens
pub record ValidStructSpan (registry : Registry) (tokens : ℕ) (span : StructSpan) : Type 0 where
  pub kind : Kind
  pub declared : slice_get registry.kinds span.kind ≡ Some kind
  pub order : span.begin ≤ span.end
  pub inside : span.end ≤ tokens
  pub count : length span.values ≡ length kind.attrs
  pub each : All ValidValue span.values

-- instances stand in order of kind, and those of one kind do not overlap
abbrev pub ComesBefore : StructSpan → StructSpan → Type 0
ComesBefore span later = (span.kind < later.kind) ⊎ ((span.kind ≡ later.kind) × (span.end ≤ later.begin))

-- the most tokens of a text
abbrev pub text_tokens_limit : ℕ
text_tokens_limit = 1048576

-- a text is valid: its name, its tokens and its instances are, there are not too many tokens, and the instances stand in their order
pub record ValidText (registry : Registry) (text : Text) : Type 0 where
  pub named : IsName text.name
  pub short : length text.tokens ≤ text_tokens_limit
  pub tokens : All (ValidToken registry) text.tokens
  pub structs : All (ValidStructSpan registry (length text.tokens)) text.structs
  pub ordered : AllPairs ComesBefore text.structs

-- the most texts of a corpus, and the most tokens of all of them
abbrev pub corpus_texts_limit : ℕ
corpus_texts_limit = 65536

-- the most tokens of all texts of a corpus together
abbrev pub corpus_tokens_limit : ℕ
corpus_tokens_limit = 4194304

-- how many tokens there are in all texts
abbrev pub total_tokens : List Text → ℕ
total_tokens corpus = sum (map (λ text. length text.tokens) corpus)

-- texts are a valid corpus: each is valid, their names differ, and there are not too many of them or of their tokens
pub record ValidCorpus (registry : Registry) (corpus : List Text) : Type 0 where
  pub few : length corpus ≤ corpus_texts_limit
  pub short : total_tokens corpus ≤ corpus_tokens_limit
  pub texts : All (ValidText registry) corpus
  pub distinct : AreDistinct (map (λ text. text.name) corpus)
