-- Tables of attributes put together of lists of parts.
use Rattle.std.specs.Prelude.{ℕ, ◌≡◌, ◌<◌, List, [], ◌∷◌, length, map, filter, is_none, is_some, Option, None, Some}
use Rattle.mt_text_spec.specs.Registries.{Attr}
use Rattle.mt_text_spec.specs.Texts.{StructSpan}
use Rattle.mt_segment_spec.specs.Tables.{AttrTables, Tables}

-- the tables of these attributes, in parts
pub record AreJoined (attrs : List Attr) (all : List AttrTables) (lexicons : List (List (List ℕ))) (columns mapped : List (List ℕ)) (postings : List (List (List ℕ))) : Type 0 where
  pub bases : map (λ attr. attr.base) all ≡ map (λ attr. attr.base) attrs
  pub lexicons_are : lexicons ≡ map (λ attr. attr.lexicon) all
  pub columns_are : columns ≡ map (λ attr. attr.numbers) (filter (λ attr. is_none attr.base) all)
  pub mapped_are : mapped ≡ map (λ attr. attr.numbers) (filter (λ attr. is_some attr.base) all)
  pub postings_are : postings ≡ map (λ attr. attr.postings) all

-- the numbers of a base attribute are the first column, those of a mapped one the first table
abbrev pub HasNumbers : Option ℕ → List (List ℕ) → List (List ℕ) → Type 0
HasNumbers None columns mapped = 0 < length columns
HasNumbers (Some base) columns mapped = 0 < length mapped

abbrev pub TakesNumbers : Option ℕ → List (List ℕ) → List (List ℕ) → List ℕ → List (List ℕ) → List (List ℕ) → Type 0
TakesNumbers None columns mapped numbers columns_left mapped_left = (columns ≡ numbers ∷ columns_left) × (mapped ≡ mapped_left)
TakesNumbers (Some base) columns mapped numbers columns_left mapped_left = (columns ≡ columns_left) × (mapped ≡ numbers ∷ mapped_left)

-- the tables of one text: its name and length, the tables of its attributes, and the instances of each kind
abbrev pub of_one_text : List ℕ → ℕ → List AttrTables → List (List StructSpan) → Tables
of_one_text name tokens attrs structs = record { texts = (name, tokens) ∷ []; attrs = attrs; structs = map (λ instances. instances ∷ []) structs }
