-- What a segment holds of some texts: for each attribute its values and where they stand, and the instances of structures.
-- The place of a token in a segment is the number of tokens before it, those of the earlier texts and those of its own.
use Rattle.std.specs.Prelude.{ℕ, ◌≡◌, ◌<◌, ◌==◌, Bool, List, [], length, map, take, sum, filter, slice_get, slice_index, slice_index_or, is_none, is_some, Option, None, Some}
use Rattle.std.specs.List.{All, Contains, flat_map}
use Rattle.std.specs.List.Sorted.{IsStrictlyIncreasing}
use Rattle.mt_text_spec.specs.Registries.{Registry, Attr, ValidRegistry, base_attr, column_of}
use Rattle.mt_text_spec.specs.Texts.{Text, Token, StructSpan, ValidCorpus, value_of, tokens_of}
use Rattle.mt_store_spec.specs.Lexicons.{IsLexiconOf, Renumbers}

-- ## The tables

-- The tables of an attribute. Its distinct values are numbered in ascending order. A base attribute has `numbers` for its tokens: the number of each token's
-- value. A mapped attribute has `numbers` for the values of its base: the number of each one's image. For each value there are the places where it stands.
pub record AttrTables : Type 0 where
  pub base : Option ℕ
  pub lexicon : List (List ℕ)
  pub numbers : List ℕ
  pub postings : List (List ℕ)

-- The name and the number of tokens of each text, the tables of each attribute, and for each kind of structure its instances in each text.
pub record Tables : Type 0 where
  pub texts : List (List ℕ × ℕ)
  pub attrs : List AttrTables
  pub structs : List (List (List StructSpan))

-- ## The values of an attribute

-- an attribute of the registry, by its number
abbrev pub attr_at : Registry → ℕ → Attr
attr_at registry number = slice_index_or registry.attrs number (base_attr [])

-- the value of each token of the texts at the base attribute that has this place among the base attributes
abbrev pub column_values : ℕ → List Text → List (List ℕ)
column_values column corpus = map (λ token. value_of token column) (tokens_of corpus)

-- the value of a token at the attribute with this number and this base: its own where there is none, and else the image of its value at the base
abbrev pub value_by : (List ℕ → List ℕ) → Registry → ℕ → Token → Option ℕ → List ℕ
value_by image registry number token None = value_of token (column_of registry.attrs number)
value_by image registry number token (Some base) = image (value_of token (column_of registry.attrs base))

-- the value of a token at an attribute, where a mapper's image is that of its name
abbrev pub attr_value : (List ℕ → List ℕ → List ℕ) → Registry → ℕ → Token → List ℕ
attr_value images registry number token = value_by (images (attr_at registry number).mapper) registry number token (attr_at registry number).base

-- the value of each token of the texts
abbrev pub attr_values : (List ℕ → List ℕ → List ℕ) → Registry → List Text → ℕ → List (List ℕ)
attr_values images registry corpus number = map (attr_value images registry number) (tokens_of corpus)

-- ## When tables are those of given texts

-- the places at which this stands in a list, ascending
pub record ArePlacesOf {X : Type 0} (value : X) (values : List X) (places : List ℕ) : Type 0 where
  pub ascending : IsStrictlyIncreasing places
  pub each : All (λ place. slice_get values place ≡ Some value) places
  pub all : (place : ℕ) → slice_get values place ≡ Some value → Contains places place

-- for each value of a lexicon its places
pub record ArePostingsOf {X : Type 0} (lexicon values : List X) (postings : List (List ℕ)) : Type 0 where
  pub count : length postings ≡ length lexicon
  pub each : (number : ℕ) (value : X) → slice_get lexicon number ≡ Some value → ArePlacesOf value values (slice_index_or postings number [])

-- tables have these values of the tokens: each distinct one, and where it stands
pub record HaveValues (values : List (List ℕ)) (tables : AttrTables) : Type 0 where
  pub lexicon : IsLexiconOf values tables.lexicon
  pub postings : ArePostingsOf tables.lexicon values tables.postings

-- The tables of a base attribute that has these values at the tokens: its numbers are those of the values.
pub record AreBaseTables (values : List (List ℕ)) (tables : AttrTables) : Type 0 where
  pub unmapped : tables.base ≡ None
  pub have : HaveValues values tables
  pub numbers : Renumbers tables.numbers values tables.lexicon

-- The tables of a mapped attribute that has these values at the tokens: its numbers are those of the images of its base's lexicon.
pub record AreMappedTables (base : ℕ) (image : List ℕ → List ℕ) (of_base values : List (List ℕ)) (tables : AttrTables) : Type 0 where
  pub mapped : tables.base ≡ Some base
  pub have : HaveValues values tables
  pub numbers : Renumbers tables.numbers (map image of_base) tables.lexicon

-- the tables of an attribute, by its number
abbrev pub tables_at : List AttrTables → ℕ → AttrTables
tables_at attrs number = slice_index_or attrs number (record { base = None; lexicon = []; numbers = []; postings = [] })

-- the texts' names and lengths
abbrev pub heads_of : List Text → List (List ℕ × ℕ)
heads_of corpus = map (λ text. (text.name, length text.tokens)) corpus

-- whether an instance is of a kind
abbrev pub is_of_kind : ℕ → StructSpan → Bool
is_of_kind kind span = span.kind == kind

-- the instances of a kind in each text
abbrev pub instances_of : ℕ → List Text → List (List StructSpan)
instances_of kind corpus = map (λ text. filter (is_of_kind kind) text.structs) corpus

-- The tables of these texts, under this registry and these images of its mappers.
pub record AreTablesOf (images : List ℕ → List ℕ → List ℕ) (registry : Registry) (corpus : List Text) (tables : Tables) : Type 0 where
  pub texts : tables.texts ≡ heads_of corpus
  pub attr_count : length tables.attrs ≡ length registry.attrs
  pub bases : (number : ℕ) → number < length registry.attrs → (attr_at registry number).base ≡ None → AreBaseTables (attr_values images registry corpus number) (tables_at tables.attrs number)
  pub mapped : (number base : ℕ) → number < length registry.attrs → (attr_at registry number).base ≡ Some base →
      AreMappedTables base (images (attr_at registry number).mapper) (tables_at tables.attrs base).lexicon (attr_values images registry corpus number) (tables_at tables.attrs number)
  pub kind_count : length tables.structs ≡ length registry.kinds
  pub structs : (kind : ℕ) → kind < length registry.kinds → slice_index_or tables.structs kind [] ≡ instances_of kind corpus

-- Tables of valid texts, at least one, under a registry and these images.
pub record AreTablesBy (images : List ℕ → List ℕ → List ℕ) (registry : Registry) (tables : Tables) : Type 0 where
  pub valid : ValidRegistry registry
  pub corpus : List Text
  pub texts : ValidCorpus registry corpus
  pub some : 0 < length corpus
  pub are : AreTablesOf images registry corpus tables

-- and under some images
pub record AreTablesUnder (registry : Registry) (tables : Tables) : Type 0 where
  pub images : List ℕ → List ℕ → List ℕ
  pub by : AreTablesBy images registry tables

-- and under some registry
pub record AreTables (tables : Tables) : Type 0 where
  pub registry : Registry
  pub under : AreTablesUnder registry tables

-- ## Tables in parts

-- Tables as lists: lexicons and posting lists of all attributes, the columns of the base attributes and the tables of the mapped ones, all in order of declaration,
-- and the instances in each text, kind by kind.
pub record HaveParts (tables : Tables) (texts : List (List ℕ × ℕ)) (lexicons : List (List (List ℕ))) (columns mapped : List (List ℕ)) (postings : List (List (List ℕ))) (structs : List (List StructSpan)) : Type 0 where
  pub texts_are : texts ≡ tables.texts
  pub lexicons_are : lexicons ≡ map (λ attr. attr.lexicon) tables.attrs
  pub columns_are : columns ≡ map (λ attr. attr.numbers) (filter (λ attr. is_none attr.base) tables.attrs)
  pub mapped_are : mapped ≡ map (λ attr. attr.numbers) (filter (λ attr. is_some attr.base) tables.attrs)
  pub postings_are : postings ≡ map (λ attr. attr.postings) tables.attrs
  pub structs_are : structs ≡ flat_map (λ kind. kind) tables.structs

-- ## What tables tell

-- how many tokens the texts before one have together, where the place of its first token is
abbrev pub first_place : Tables → ℕ → ℕ
first_place tables text = sum (map (λ head. head.1) (take text tables.texts))

-- how many tokens all texts have
abbrev pub token_count : Tables → ℕ
token_count tables = sum (map (λ head. head.1) tables.texts)

-- the number at a place: the column's, or what the table makes of the base's
abbrev pub number_by : List ℕ → List AttrTables → ℕ → Option ℕ → ℕ
number_by numbers attrs place None = slice_index numbers place
number_by numbers attrs place (Some base) = slice_index numbers (slice_index (tables_at attrs base).numbers place)

-- the number of an attribute's value at a place
abbrev pub number_at : Tables → ℕ → ℕ → ℕ
number_at tables attr place = number_by (tables_at tables.attrs attr).numbers tables.attrs place (tables_at tables.attrs attr).base
