-- What the tables of the texts of two corpora are, in terms of the tables of either.
use Rattle.std.specs.Prelude.{ℕ, ◌≡◌, ◌+◌, ◌<◌, List, [], ◌++◌, length, map, slice_get, slice_index, slice_index_or, Option, None, Some}
use Rattle.std.specs.List.{position_or_len}
use Rattle.std.specs.Str.{bytes_eq}
use Rattle.mt_store_spec.specs.Lexicons.{IsLexiconOf, Renumbers}
use Rattle.mt_segment_spec.specs.Tables.{AttrTables, Tables, tables_at, token_count}

-- the places of a value, none where the lexicon lacks it
abbrev pub places_of : AttrTables → List ℕ → List ℕ
places_of tables value = slice_index_or tables.postings (position_or_len (bytes_eq value) tables.lexicon) []

-- the values for which numbers stand
abbrev pub numbered : AttrTables → List (List ℕ)
numbered tables = map (λ number. slice_index_or tables.lexicon number []) tables.numbers

-- Tables of a mapped attribute go over to other ones: what a value of the base is mapped to is the same in both.
abbrev pub GoesOver : List (List ℕ) → AttrTables → List (List ℕ) → AttrTables → Type 0
GoesOver of_base tables of_other other = (number its : ℕ) → number < length of_base → slice_get of_other its ≡ slice_get of_base number →
    slice_get other.lexicon (slice_index other.numbers its) ≡ slice_get tables.lexicon (slice_index tables.numbers number)

-- The tables of an attribute with this base: all values of either, each at its places of the first corpus and, behind so many tokens, at those of the second.
pub record AreAttrsOfBoth (tokens : ℕ) (a b both : AttrTables) : Type 0 where
  pub lexicon : IsLexiconOf (a.lexicon ++ b.lexicon) both.lexicon
  pub count : length both.postings ≡ length both.lexicon
  pub postings : (number : ℕ) (value : List ℕ) → slice_get both.lexicon number ≡ Some value →
      slice_index_or both.postings number [] ≡ places_of a value ++ map (λ place. tokens + place) (places_of b value)

-- its numbers: at a base attribute the column of the first and then that of the second, at a mapped one what either's table says
abbrev pub AreNumbersOfBoth : List AttrTables → List AttrTables → List AttrTables → ℕ → Option ℕ → Type 0
AreNumbersOfBoth a b both attr None = Renumbers (tables_at both attr).numbers (numbered (tables_at a attr) ++ numbered (tables_at b attr)) (tables_at both attr).lexicon
AreNumbersOfBoth a b both attr (Some base) =
    (length (tables_at both attr).numbers ≡ length (tables_at both base).lexicon)
    × GoesOver (tables_at a base).lexicon (tables_at a attr) (tables_at both base).lexicon (tables_at both attr)
    × GoesOver (tables_at b base).lexicon (tables_at b attr) (tables_at both base).lexicon (tables_at both attr)

-- The tables of the texts of two corpora.
pub record AreTablesOfBoth (a b both : Tables) : Type 0 where
  pub texts : both.texts ≡ a.texts ++ b.texts
  pub attr_count : length both.attrs ≡ length a.attrs
  pub based : (attr : ℕ) → attr < length a.attrs → (tables_at both.attrs attr).base ≡ (tables_at a.attrs attr).base
  pub attrs : (attr : ℕ) → attr < length a.attrs → AreAttrsOfBoth (token_count a) (tables_at a.attrs attr) (tables_at b.attrs attr) (tables_at both.attrs attr)
  pub numbers : (attr : ℕ) → attr < length a.attrs → AreNumbersOfBoth a.attrs b.attrs both.attrs attr (tables_at a.attrs attr).base
  pub kind_count : length both.structs ≡ length a.structs
  pub structs : (kind : ℕ) → kind < length a.structs → slice_index_or both.structs kind [] ≡ slice_index_or a.structs kind [] ++ slice_index_or b.structs kind []
