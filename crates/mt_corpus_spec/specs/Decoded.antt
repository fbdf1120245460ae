-- What the tables of segments are decoded to: the texts, and the images of values that were taken from mappers.
use Rattle.std.specs.Prelude.{ℕ, ◌+◌, ◌==◌, if◌then◌else◌, Bool, List, [], ◌∷◌, length, map, slice_index, slice_index_or, is_none, Option, None, Some}
use Rattle.std.specs.List.{flat_map, list_any, range_with_len}
use Rattle.mt_text_spec.specs.Registries.{Registry, Attr}
use Rattle.mt_text_spec.specs.Texts.{Text, Token}
use Rattle.mt_segment_spec.specs.Tables.{AttrTables, Tables, attr_at, first_place, number_at, tables_at}
use Rattle.mt_corpus_spec.specs.Groups.{Group}
use Rattle.mt_corpus_spec.specs.Images.{Image}

-- ## Texts

-- the value of an attribute at a place: the one of the number that stands there
abbrev pub value_in : Tables → (attr place : ℕ) → List ℕ
value_in tables attr place = slice_index_or (tables_at tables.attrs attr).lexicon (number_at tables attr place) []

-- the values at a place of the base attributes among these, which are numbered from `first` on
abbrev pub values_in : Tables → (place first : ℕ) → List Attr → List (List ℕ)
values_in tables place first [] = []
values_in tables place first (attr ∷ attrs) =
    if is_none attr.base then value_in tables first place ∷ values_in tables place (first + 1) attrs else values_in tables place (first + 1) attrs

-- the token at a place
abbrev pub token_in : Registry → Tables → (place : ℕ) → Token
token_in registry tables place = record { values = values_in tables place 0 registry.attrs }

-- the text with this number
abbrev pub text_in : Registry → Tables → (number : ℕ) → Text
text_in registry tables number = record {
  name = (slice_index_or tables.texts number ([], 0)).0;
  tokens = map (token_in registry tables) (range_with_len (first_place tables number) (slice_index_or tables.texts number ([], 0)).1);
  structs = flat_map (λ kind. slice_index_or kind number []) tables.structs;
}

-- all texts of which the tables tell
unfoldable pub texts_in : Registry → Tables → List Text
texts_in registry tables = map (text_in registry tables) (range_with_len 0 (length tables.texts))

-- ## Images

-- the image of the value with this number of a base, by the tables of an attribute that is mapped from it
abbrev pub image_in : (mapper : List ℕ) → (base mapped : AttrTables) → (number : ℕ) → Image
image_in mapper base mapped number = record { mapper = mapper; value = slice_index_or base.lexicon number []; image = slice_index_or mapped.lexicon (slice_index mapped.numbers number) [] }

-- the images of the values of its base that an attribute has, if it is a mapped one
abbrev pub attr_images : Tables → AttrTables → (mapper : List ℕ) → Option ℕ → List Image
attr_images tables mapped mapper None = []
attr_images tables mapped mapper (Some base) = map (image_in mapper (tables_at tables.attrs base) mapped) (range_with_len 0 (length (tables_at tables.attrs base).lexicon))

-- those of the attribute with this number
abbrev pub images_at : Registry → Tables → (attr : ℕ) → List Image
images_at registry tables attr = attr_images tables (tables_at tables.attrs attr) (attr_at registry attr).mapper (attr_at registry attr).base

-- and of all attributes
unfoldable pub images_in : Registry → Tables → List Image
images_in registry tables = flat_map (images_at registry tables) (range_with_len 0 (length registry.attrs))

-- ## Groups

-- whether a number is among these
abbrev pub is_among : List ℕ → ℕ → Bool
is_among numbers number = list_any (λ each. each == number) numbers

-- texts numbered from `first` on, of which those with these numbers are live
abbrev pub marked : (first : ℕ) → List Text → (live : List ℕ) → Group
marked first [] live = []
marked first (text ∷ texts) live = (text, is_among live first) ∷ marked (first + 1) texts live

-- the group of a segment, of whose texts those with these numbers are live
abbrev pub group_in : Registry → Tables → (live : List ℕ) → Group
group_in registry tables live = marked 0 (texts_in registry tables) live

-- the groups of segments
abbrev pub groups_in : Registry → List Tables → (live : List (List ℕ)) → List Group
groups_in registry [] live = []
groups_in registry (tables ∷ segments) [] = []
groups_in registry (tables ∷ segments) (numbers ∷ live) = group_in registry tables numbers ∷ groups_in registry segments live

-- the images that all segments have
abbrev pub taken_in : Registry → List Tables → List Image
taken_in registry segments = flat_map (images_in registry) segments
