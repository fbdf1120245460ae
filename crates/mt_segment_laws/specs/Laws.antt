-- Laws of the tables of texts.
use Rattle.std.specs.Prelude.{ℕ, ◌≡◌, ◌+◌, ◌<◌, ◌≤◌, List, [], ◌++◌, length, filter, slice_get, slice_index_or, None, Some}
use Rattle.std.specs.List.{All, AllPairs}
use Rattle.mt_text_spec.specs.Registries.{Registry, ValidRegistry}
use Rattle.mt_text_spec.specs.Texts.{StructSpan, Text, ValidCorpus, tokens_of}
use Rattle.mt_segment_spec.specs.Tables.{Tables, AreTables, AreTablesOf, attr_values, first_place, is_of_kind, number_at, tables_at, token_count}
use Rattle.mt_segment_laws.specs.Both.{AreTablesOfBoth}

-- texts have tables, whatever the images are
abbrev pub HaveTables : Type 0
HaveTables = (images : List ℕ → List ℕ → List ℕ) (registry : Registry) (corpus : List Text) → ValidRegistry registry → (tables : Tables) × AreTablesOf images registry corpus tables

-- texts have one list of tables at most, under a registry and images
abbrev pub HaveOneTables : Type 0
HaveOneTables = (images : List ℕ → List ℕ → List ℕ) (registry : Registry) (corpus : List Text) (a b : Tables) → ValidCorpus registry corpus → AreTablesOf images registry corpus a → AreTablesOf images registry corpus b → a ≡ b

-- the number at a place is that of the token's value
abbrev pub NumbersStandForValues : Type 0
NumbersStandForValues = (images : List ℕ → List ℕ → List ℕ) (registry : Registry) (corpus : List Text) (tables : Tables) → ValidRegistry registry → AreTablesOf images registry corpus tables →
    (attr place : ℕ) → attr < length tables.attrs → place < token_count tables →
    slice_get (tables_at tables.attrs attr).lexicon (number_at tables attr place) ≡ Some (slice_index_or (attr_values images registry corpus attr) place [])

-- Tables are whole: a base attribute has a number for each token, a mapped one for each value of its base, which is a base attribute, each attribute has a
-- posting list for each value, and a number at a place is that of a value.
pub record AreWhole (tables : Tables) : Type 0 where
  pub columns : (attr : ℕ) → attr < length tables.attrs → (tables_at tables.attrs attr).base ≡ None → length (tables_at tables.attrs attr).numbers ≡ token_count tables
  pub bases : (attr base : ℕ) → attr < length tables.attrs → (tables_at tables.attrs attr).base ≡ Some base → (base < length tables.attrs) × ((tables_at tables.attrs base).base ≡ None)
  pub mapped : (attr base : ℕ) → attr < length tables.attrs → (tables_at tables.attrs attr).base ≡ Some base → length (tables_at tables.attrs attr).numbers ≡ length (tables_at tables.attrs base).lexicon
  pub postings : (attr : ℕ) → attr < length tables.attrs → length (tables_at tables.attrs attr).postings ≡ length (tables_at tables.attrs attr).lexicon
  pub within : (attr place : ℕ) → attr < length tables.attrs → place < token_count tables → number_at tables attr place < length (tables_at tables.attrs attr).lexicon

-- the tables of texts are whole
abbrev pub TablesAreWhole : Type 0
TablesAreWhole = (tables : Tables) → AreTables tables → AreWhole tables

-- the token with a number in a text stands so far behind the text's first place
abbrev pub TokensStandInTexts : Type 0
TokensStandInTexts = (images : List ℕ → List ℕ → List ℕ) (registry : Registry) (corpus : List Text) (tables : Tables) → AreTablesOf images registry corpus tables →
    (number token : ℕ) (text : Text) → slice_get corpus number ≡ Some text → token < length text.tokens →
    slice_get (tokens_of corpus) (first_place tables number + token) ≡ slice_get text.tokens token

-- The instances that tables tell for a kind and a text are the text's of this kind, in the text's order: they lie in the text, and none begins before an
-- earlier one ends.
pub record AreInstancesIn (kind : ℕ) (text : Text) (spans : List StructSpan) : Type 0 where
  pub are : spans ≡ filter (is_of_kind kind) text.structs
  pub kinds : All (λ span. span.kind ≡ kind) spans
  pub inside : All (λ span. (span.begin ≤ span.end) × (span.end ≤ length text.tokens)) spans
  pub ordered : AllPairs (λ span later. span.end ≤ later.begin) spans

-- the instances that tables tell are those of the texts
abbrev pub InstancesLieInTexts : Type 0
InstancesLieInTexts = (images : List ℕ → List ℕ → List ℕ) (registry : Registry) (corpus : List Text) (tables : Tables) → ValidCorpus registry corpus → AreTablesOf images registry corpus tables →
    (kind number : ℕ) (text : Text) → kind < length tables.structs → slice_get corpus number ≡ Some text →
    AreInstancesIn kind text (slice_index_or (slice_index_or tables.structs kind []) number [])

-- what tables of two corpora give together are the tables of the texts of both
abbrev pub BothHaveTables : Type 0
BothHaveTables = (images : List ℕ → List ℕ → List ℕ) (registry : Registry) (first second : List Text) (a b both : Tables) → ValidRegistry registry →
    AreTablesOf images registry first a → AreTablesOf images registry second b → AreTablesOfBoth a b both → AreTablesOf images registry (first ++ second) both
