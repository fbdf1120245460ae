-- Rows of tests: sets of the places of a segment of which tests hold.
use Rattle.std.specs.Prelude.{ℕ, ◌≡◌, ◌+◌, ◌/◌, ◌<◌, Bool, true, false, List, [], length, slice_index, slice_index_or}
use Rattle.std.specs.List.{Contains}
use Rattle.mt_places.specs.Places.{In, HasJust}
use Rattle.mt_segment_spec.specs.Tables.{Tables, number_at, tables_at}
use Rattle.mt_prepare.specs.declared.resolved.Resolved.{Resolved}
use Rattle.mt_prepare.specs.declared.resolved.Resolved.TheVariants as resolved
use Rattle.mt_prepare.specs.Resolved.{Says}

-- a set of places, with room for all places of so many tokens, has just the tokens of which P holds
pub record IsRow (tokens : ℕ) (P : ℕ → Type 0) (row : List ℕ) : Type 0 where
  pub width : length row ≡ tokens / 64 + 1
  pub places : HasJust (λ place. (place < tokens) × P place) row

-- the test says so of the values at a place of the segment
abbrev pub SaysAt : Tables → Resolved → (place : ℕ) → Type 0
SaysAt tables test place = Says test (λ attr. number_at tables attr place)

-- each attribute that the test names is one of the segment's
abbrev pub HasAttrs : Tables → Resolved → Type 0
HasAttrs tables resolved.Any = Unit {0}
HasAttrs tables (resolved.One attr id negated) = attr < length tables.attrs
HasAttrs tables (resolved.Some attr ids negated) = attr < length tables.attrs
HasAttrs tables (resolved.Not' p inner) = HasAttrs tables inner
HasAttrs tables (resolved.Both' p left r right) = HasAttrs tables left × HasAttrs tables right
HasAttrs tables (resolved.Either' p left r right) = HasAttrs tables left × HasAttrs tables right

-- the number of the attribute's value at a place is in the set
abbrev pub NumberIsIn : Tables → (attr : ℕ) → (numbers : List ℕ) → (place : ℕ) → Type 0
NumberIsIn tables attr numbers place = In numbers (number_at tables attr place)

-- each number of the set is that of a value of the attribute
abbrev pub AreNumbers : Tables → (attr : ℕ) → (numbers : List ℕ) → Type 0
AreNumbers tables attr numbers = (number : ℕ) → In numbers number → number < length (tables_at tables.attrs attr).lexicon

-- a value whose number is in the set and below another one stands at the place
pub record IsListedBelow (tables : Tables) (attr : ℕ) (numbers : List ℕ) (next place : ℕ) : Type 0 where
  pub number : ℕ
  pub below : number < next
  pub is_in : In numbers number
  pub listed : Contains (slice_index_or (tables_at tables.attrs attr).postings number []) place

-- the list says of each number below the count whether P holds of it
pub record AreSought (P : ℕ → Type 0) (count : ℕ) (sought : List Bool) : Type 0 where
  pub size : length sought ≡ count
  pub sound : (number : ℕ) → slice_index_or sought number false ≡ true → P number
  pub complete : (number : ℕ) → number < count → P number → slice_index_or sought number false ≡ true

-- the number of the column at the place is one of those that are sought
abbrev pub IsSoughtAt : (column : List ℕ) → (sought : List Bool) → (place : ℕ) → Type 0
IsSoughtAt column sought place = slice_index_or sought (slice_index column place) false ≡ true
