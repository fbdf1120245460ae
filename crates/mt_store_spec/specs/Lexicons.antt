-- What a lexicon is: the distinct values of an attribute in ascending order of their bytes, each numbered by its place, from 0.
use Rattle.std.specs.Prelude.{ℕ, ◌≡◌, ◌^◌, ◌<◌, ◌≤◌, Bool, true, List, [], ◌∷◌, ◌++◌, length, slice_get, slice_index, Some, if◌then◌else◌}
use Rattle.std.specs.List.{All, AllPairs, Contains, list_any, flat_map}
use Rattle.std.specs.Str.{bytes_eq}
use Rattle.std.specs.Ordering.{nat_cmp}
use Rattle.std.specs.Cmp.Lexicographic.{slice_cmp}
use Rattle.std.specs.declared.cmp.Ordering.TheVariants.{Less}

-- a value comes before another in the order of their bytes
abbrev pub IsBelow : List ℕ → List ℕ → Type 0
IsBelow value other = slice_cmp nat_cmp value other ≡ Less

-- each value is below every later one, so none is there twice
abbrev pub IsAscending : List (List ℕ) → Type 0
IsAscending values = AllPairs IsBelow values

-- the lexicon of some values, which may repeat, has each of them once and no other, in ascending order
pub record IsLexiconOf (values lexicon : List (List ℕ)) : Type 0 where
  pub ascending : IsAscending lexicon
  pub all : All (Contains lexicon) values
  pub only : All (Contains values) lexicon

-- a renumbering from old to new values has a number for each old number, and it stands for the same value
pub record Renumbers (numbers : List ℕ) (old new : List (List ℕ)) : Type 0 where
  pub count : length numbers ≡ length old
  pub same : (k : ℕ) → k < length old → slice_get new (slice_index numbers k) ≡ slice_get old k

-- the values that are kept, in their order, where each has a flag that tells whether it is
abbrev pub kept_values : List Bool → List (List ℕ) → List (List ℕ)
kept_values [] values = []
kept_values (keep ∷ kept) [] = []
kept_values (keep ∷ kept) (value ∷ values) = if keep then value ∷ kept_values kept values else kept_values kept values

-- a renumbering of kept values has a number for each old number, and that of a value that is kept stands for the same value
pub record RenumbersKept (kept : List Bool) (numbers : List ℕ) (old new : List (List ℕ)) : Type 0 where
  pub count : length numbers ≡ length old
  pub same : (k : ℕ) → k < length old → slice_get kept k ≡ Some true → slice_get new (slice_index numbers k) ≡ slice_get old k

-- the values in the order in which they were first seen, after one more was seen
abbrev pub seen_with : List (List ℕ) → List ℕ → List (List ℕ)
seen_with values value = if list_any (bytes_eq value) values then values else values ++ value ∷ []

-- the values of the parts, one part after the other
abbrev pub all_values : List (List (List ℕ)) → List (List ℕ)
all_values parts = flat_map (λ part. part) parts

-- few enough of the values are distinct: their lexicon has fewer than 2^32
abbrev pub AreFew : List (List ℕ) → Type 0
AreFew values = (lexicon : List (List ℕ)) → IsLexiconOf values lexicon → length lexicon < 2 ^ 32

-- values have a lexicon
abbrev pub HaveALexicon : Type 0
HaveALexicon = (values : List (List ℕ)) → (lexicon : List (List ℕ)) × IsLexiconOf values lexicon

-- and one only
abbrev pub HaveOneLexicon : Type 0
HaveOneLexicon = (values a b : List (List ℕ)) → IsLexiconOf values a → IsLexiconOf values b → a ≡ b

-- which does not depend on the order in which they come, nor on how often each does
abbrev pub IsToldByMembers : Type 0
IsToldByMembers = (values others a b : List (List ℕ)) → All (Contains others) values → All (Contains values) others → IsLexiconOf values a → IsLexiconOf others b → a ≡ b

-- no list that holds all of them is shorter
abbrev pub IsShortest : Type 0
IsShortest = (values others lexicon : List (List ℕ)) → All (Contains others) values → IsLexiconOf values lexicon → length lexicon ≤ length others
