-- The tables of all attributes: first those of the base attributes, then, in their places, those of the mapped ones.
use Rattle.std.specs.Prelude.{ℕ, ◌≡◌, ◌*◌, ◌<◌, List, [], length, slice_index_or, slice_set, Option, None, Some}
use Rattle.std.specs.List.{All}
use Rattle.mt_text_spec.specs.Registries.{Attr, base_attr, column_of}
use Rattle.mt_text_spec.specs.Texts.{StructSpan, Text}
use Rattle.mt_segment_spec.specs.Tables.{AttrTables, AreBaseTables, column_values, instances_of, tables_at}
use Rattle.mt_segment.specs.Lists.{groups}
use Rattle.mt_segment.specs.Mappers.{AreMapped}

-- the attribute with this number
abbrev pub attr_of : List Attr → ℕ → Attr
attr_of attrs number = slice_index_or attrs number (base_attr [])

-- the tables of the base attributes among the first so many attributes are made
pub record HaveBases (attrs : List Attr) (corpus : List Text) (tables : List AttrTables) (many : ℕ) : Type 0 where
  pub count : length tables ≡ many
  pub at : (number : ℕ) → number < many → (attr_of attrs number).base ≡ None → AreBaseTables (column_values (column_of attrs number) corpus) (tables_at tables number)

-- tables from which others can be made: each number is one of the lexicon's
pub record AreUsable (tables : AttrTables) : Type 0 where
  pub few : length tables.numbers < 4294967295
  pub within : All (λ n. n < length tables.lexicon) tables.numbers

-- an attribute is no mapped one, or has a base with such tables
pub record HasBase (attrs : List Attr) (tables : List AttrTables) (attr : Attr) : Type 0 where
  pub there : (base : ℕ) → attr.base ≡ Some base → base < length tables
  pub is_base : (base : ℕ) → attr.base ≡ Some base → (attr_of attrs base).base ≡ None
  pub usable : (base : ℕ) → attr.base ≡ Some base → AreUsable (tables_at tables base)

-- the tables of a mapped attribute are put into their place
abbrev pub IsMappedAt : (List ℕ → List ℕ) → Option ℕ → ℕ → List AttrTables → List AttrTables → Type 0
IsMappedAt image None number old new = new ≡ old
IsMappedAt image (Some base) number old new = (made : AttrTables) × (new ≡ slice_set old number made) × AreMapped base image (tables_at old base) made

-- the mapped attributes among the first so many attributes have their tables, and the base attributes have theirs as before
pub record AreAllMapped (images : List ℕ → List ℕ → List ℕ) (attrs : List Attr) (old new : List AttrTables) (many : ℕ) : Type 0 where
  pub count : length new ≡ length old
  pub kept : (number : ℕ) → (attr_of attrs number).base ≡ None → tables_at new number ≡ tables_at old number
  pub mapped : (number base : ℕ) → number < many → (attr_of attrs number).base ≡ Some base → AreMapped base (images (attr_of attrs number).mapper) (tables_at old base) (tables_at new number)

-- the instances of the first so many kinds, each in each text
pub record AreInstances (corpus : List Text) (lists : List (List StructSpan)) (many : ℕ) : Type 0 where
  pub count : length lists ≡ many * length corpus
  pub at : (kind : ℕ) → kind < many → slice_index_or (groups (length corpus) many lists) kind [] ≡ instances_of kind corpus
