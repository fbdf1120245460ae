-- Tokens that are told by codes, and what is known of each code.
use Rattle.std.specs.Prelude.{ℕ, ◌≡◌, ◌/◌, ◌%◌, ◌<◌, ◌≤◌, Bool, true, false, ◌==◌, List, length, map, slice_get, slice_index, slice_index_or, Some, ◌⊎◌}
use Rattle.std.specs.List.{All, Contains, flat_map}
use Rattle.mt_text_spec.specs.Texts.{Token, value_of}
use Rattle.mt_generate_spec.specs.Generated.{token_of, tokens_from}

-- the token of a code, which is twice the rank of the lemma, and one more in the plural
abbrev pub token_coded : ℕ → Token
token_coded code = token_of (code / 2) (code % 2 == 1)

-- the tokens of codes
abbrev pub tokens_of : List ℕ → List Token
tokens_of codes = map token_coded codes

-- the codes of parts that follow each other
abbrev pub all_codes : List (List ℕ) → List ℕ
all_codes parts = flat_map (λ part. part) parts

-- the values of tokens in a column
abbrev pub values_of : ℕ → List Token → List (List ℕ)
values_of column tokens = map (λ token. value_of token column) tokens

-- Of the marks of all codes below a bound those are set that are on a list, which has no others.
pub record AreMarked (bound : ℕ) (codes : List ℕ) (marks : List Bool) : Type 0 where
  pub low : All (λ code. code < bound) codes
  pub all : All (λ code. slice_index_or marks code false ≡ true) codes
  pub only : (code : ℕ) → code < bound → slice_index_or marks code false ≡ true → Contains codes code

-- A mark of all codes is set where it is set on one of two lists.
pub record AreMarksOfBoth (some others all : List Bool) : Type 0 where
  pub long : length all ≡ length some
  pub first : (code : ℕ) → slice_index_or some code false ≡ true → slice_index_or all code false ≡ true
  pub second : (code : ℕ) → slice_index_or others code false ≡ true → slice_index_or all code false ≡ true
  pub only : (code : ℕ) → slice_index_or all code false ≡ true → (slice_index_or some code false ≡ true) ⊎ (slice_index_or others code false ≡ true)

-- The codes are those of the tokens of a seed from a place on, so many, and of the marks of all codes theirs are set.
pub record AreDrawn (seed from count : ℕ) (codes : List ℕ) (marks : List Bool) : Type 0 where
  pub tokens : tokens_of codes ≡ tokens_from seed from count
  pub marked : AreMarked 2000 codes marks
  pub long : length marks ≡ 2000

-- The codes that were seen are those that were drawn, and no more than there are.
pub record AreSeen (seen drawn : List ℕ) : Type 0 where
  pub low : All (λ code. code < 2000) seen
  pub few : length seen ≤ 2000
  pub all : All (Contains seen) drawn
  pub only : All (Contains drawn) seen

-- A code stands among the first so many, and a number at the same place of another list.
pub record StandBeside (codes numbers : List ℕ) (count code number : ℕ) : Type 0 where
  pub place : ℕ
  pub within : place < count
  pub has_code : slice_index codes place ≡ code
  pub has_number : slice_index numbers place ≡ number

-- A table of all codes has for each of the first so many of a list a number that stands beside it.
pub record IsTableOf (codes numbers : List ℕ) (count : ℕ) (table : List ℕ) : Type 0 where
  pub long : length table ≡ 2000
  pub at : (place : ℕ) → place < count → StandBeside codes numbers count (slice_index codes place) (slice_index table (slice_index codes place))

-- A table of all codes tells for each of these which number of a lexicon stands for the value that its token has in a column.
pub record TellsNumbers (column : ℕ) (codes : List ℕ) (lexicon : List (List ℕ)) (table : List ℕ) : Type 0 where
  pub long : length table ≡ 2000
  pub at : (code : ℕ) → Contains codes code → slice_get lexicon (slice_index table code) ≡ Some (value_of (token_coded code) column)
