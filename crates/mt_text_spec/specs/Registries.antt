-- What a registry declares, and when it is valid.
use Rattle.std.specs.Prelude.{ℕ, ◌≡◌, ◌≢◌, ◌<◌, ◌≤◌, Bool, List, [], ◌∷◌, length, map, take, codes, slice_get, slice_index_or, count_by, is_none, Option, None, Some}
use Rattle.std.specs.List.{All, AllPairs}
use Rattle.mt_text_spec.specs.Words.{IsIdentifier}

-- An attribute of tokens. A base attribute has its values in the texts. A mapped one has a base, the attribute of this number, and its value at a token is what
-- the mapper of this name makes of the value of the base there. A base attribute has no mapper: the name is empty.
pub record Attr : Type 0 where
  pub name : List ℕ
  pub base : Option ℕ
  pub mapper : List ℕ

-- a kind of structure, as `s` or `doc`, with the names of its attributes
pub record Kind : Type 0 where
  pub name : List ℕ
  pub attrs : List (List ℕ)

-- a registry: the attributes and the kinds of structures in order of declaration, and the number of the attribute whose values sketches count
pub record Registry : Type 0 where
  pub attrs : List Attr
  pub kinds : List Kind
  pub ws_attr : ℕ

-- whether an attribute is a base attribute
abbrev pub is_base : Attr → Bool
is_base attr = is_none attr.base

-- how many base attributes there are: so many values has a token
abbrev pub base_count : List Attr → ℕ
base_count attrs = count_by is_base attrs

-- the place of a base attribute's value among the values of a token: how many base attributes are declared before it
abbrev pub column_of : List Attr → ℕ → ℕ
column_of attrs number = base_count (take number attrs)

-- the attribute of this number is a base attribute
pub record IsBaseAt (attrs : List Attr) (number : ℕ) : Type 0 where
  pub attr : Attr
  pub there : slice_get attrs number ≡ Some attr
  pub base : attr.base ≡ None

-- names that differ from each other
abbrev pub AreDistinct : List (List ℕ) → Type 0
AreDistinct names = AllPairs (λ name other. name ≢ other) names

-- the names of attributes, of kinds
abbrev pub attr_names : List Attr → List (List ℕ)
attr_names attrs = map (λ attr. attr.name) attrs

-- the names of kinds of structures
abbrev pub kind_names : List Kind → List (List ℕ)
kind_names kinds = map (λ kind. kind.name) kinds

-- the names of the attributes of the kind with this number
abbrev pub kind_attrs : List Kind → ℕ → List (List ℕ)
kind_attrs kinds number = (slice_index_or kinds number (record { name = []; attrs = [] })).attrs

-- a declared attribute: the base of a mapped one is a base attribute
pub record ValidAttr (attrs : List Attr) (attr : Attr) : Type 0 where
  pub named : IsIdentifier attr.name
  pub based : (number : ℕ) → attr.base ≡ Some number → IsBaseAt attrs number
  pub unmapped : attr.base ≡ None → attr.mapper ≡ []
  pub short : length attr.mapper ≤ 1024

-- a declared kind has at most 16 attributes
pub record ValidKind (kind : Kind) : Type 0 where
  pub named : IsIdentifier kind.name
  pub few : length kind.attrs ≤ 16
  pub each : All IsIdentifier kind.attrs
  pub distinct : AreDistinct kind.attrs

-- a registry is valid where it has 1 to 16 attributes, one of them a base attribute, and at most 16 kinds, and the names in each list differ
pub record ValidRegistry (registry : Registry) : Type 0 where
  pub few : length registry.attrs ≤ 16
  pub some : 0 < base_count registry.attrs
  pub attrs : All (ValidAttr registry.attrs) registry.attrs
  pub distinct : AreDistinct (attr_names registry.attrs)
  pub few_kinds : length registry.kinds ≤ 16
  pub kinds : All ValidKind registry.kinds
  pub distinct_kinds : AreDistinct (kind_names registry.kinds)
  pub sketched : registry.ws_attr < length registry.attrs

-- a base attribute of this name
abbrev pub base_attr : List ℕ → Attr
base_attr name = record { name = name; base = None; mapper = [] }

-- before another is accepted: `word`, `tag` and `lemma`; `doc` with `id`, `s` and `g`; sketches count lemmas
abbrev pub standard_registry : Registry
standard_registry = record {
  attrs = base_attr (codes "word") ∷ base_attr (codes "tag") ∷ base_attr (codes "lemma") ∷ [];
  kinds = record { name = codes "doc"; attrs = codes "id" ∷ [] } ∷ record { name = codes "s"; attrs = [] } ∷ record { name = codes "g"; attrs = [] } ∷ [];
  ws_attr = 2;
}
