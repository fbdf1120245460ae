-- The mappers that are handed in: each is seen as its name and its image of each value. Where two have one name, the first of them counts.
use Rattle.std.specs.Prelude.{ℕ, ◌≡◌, ◌<◌, ◌==◌, List, [], ◌∷◌, length, map, sum, slice_index, if◌then◌else◌, Option, None, Some, Result, OnOk, OnErr}
use Rattle.std.specs.List.{All, Contains, position_or_len}
use Rattle.std.specs.Str.{bytes_eq}
use Rattle.mt_text_spec.specs.Registries.{Attr}
use Rattle.mt_store_spec.specs.Lexicons.{IsLexiconOf, Renumbers}
use Rattle.mt_lexicon.specs.Joins.{renumbered}
use Rattle.mt_mapper.specs.Calls.{counted, CountedAtMost}
use Rattle.mt_segment_spec.specs.Tables.{AttrTables, tables_at}
use Rattle.mt_segment.specs.Parts.{AreInverted}

-- the names and images of mappers
abbrev pub named : {M : Type 0} → (M → List ℕ) → (M → List ℕ → List ℕ) → List M → List (List ℕ × (List ℕ → List ℕ))
named called image mappers = map (λ mapper. (called mapper, image mapper)) mappers

-- the number of the mapper of this name, or how many there are where none has it
abbrev pub number_of : List (List ℕ) → List ℕ → ℕ
number_of names name = position_or_len (bytes_eq name) names

-- the image by the mapper of this name
abbrev pub image_by : List (List ℕ × (List ℕ → List ℕ)) → List ℕ → List ℕ → List ℕ
image_by [] name = λ value. []
image_by (mapper ∷ mappers) name = if bytes_eq name mapper.0 then mapper.1 else image_by mappers name

-- the mapper of an attribute is there, if it is a mapped one
abbrev pub IsThere : List (List ℕ) → Attr → Type 0
IsThere names attr = (base : ℕ) → attr.base ≡ Some base → Contains names attr.mapper

-- and of each attribute
abbrev pub AreThere : List (List ℕ) → List Attr → Type 0
AreThere names attrs = All (IsThere names) attrs

-- how often an attribute with this mapper's name and this base calls the mapper with this number: once for each distinct value of its base, where it is its own
abbrev pub calls_of : List (List ℕ) → List AttrTables → ℕ → List ℕ → Option ℕ → ℕ
calls_of names tables mapper name None = 0
calls_of names tables mapper name (Some base) = if number_of names name == mapper then length (tables_at tables base).lexicon else 0

-- how often these attributes together call it
abbrev pub calls_due : List (List ℕ) → List AttrTables → List Attr → ℕ → ℕ
calls_due names tables attrs mapper = sum (map (λ attr. calls_of names tables mapper attr.mapper attr.base) attrs)

-- What calls of a mapper do to its count: it is called so often, or where memory runs out half-way at most so often.
pub record Called {T E : Type 0} (due old new : ℕ) (answer : Result T E) : Type 0 where
  pub all : OnOk answer (new ≡ counted old due)
  pub halfway : OnErr answer (CountedAtMost old due new)

-- and of each of these mappers
pub record AreCalled {T E : Type 0} (due : ℕ → ℕ) (old new : List ℕ) (answer : Result T E) : Type 0 where
  pub count : length new ≡ length old
  pub each : (mapper : ℕ) → mapper < length old → Called (due mapper) (slice_index old mapper) (slice_index new mapper) answer

-- The tables of an attribute with this base: of its values for those of the base, which are given, and of the base's numbers.
pub record AreMade (base : ℕ) (images : List (List ℕ)) (numbers : List ℕ) (tables : AttrTables) : Type 0 where
  pub based : tables.base ≡ Some base
  pub lexicon : IsLexiconOf images tables.lexicon
  pub numbers_are : Renumbers tables.numbers images tables.lexicon
  pub postings : AreInverted (renumbered tables.numbers numbers) (length tables.lexicon) tables.postings

-- the tables that come of those of a base by images of its values
abbrev pub AreMapped : ℕ → (List ℕ → List ℕ) → AttrTables → AttrTables → Type 0
AreMapped base image under tables = AreMade base (map image under.lexicon) under.numbers tables
