-- How two lexicons are joined.
use Rattle.std.specs.Prelude.{ℕ, Bool, ◌≡◌, ◌+◌, ◌<◌, ◌≤◌, List, [], ◌++◌, length, map, slice_index, slice_index_or, Option, Some, None}
use Rattle.std.specs.declared.cmp.Ordering.{Ordering}
use Rattle.std.specs.declared.cmp.Ordering.TheVariants.{Less, Equal, Greater}
use Rattle.mt_store_spec.specs.Lexicons.{IsBelow, IsLexiconOf, Renumbers, RenumbersKept, all_values}
use Rattle.std.specs.List.{AllZip}

-- which of two lists has the next value, from these places on, where the end of a list is above every value
abbrev pub ComesNext : List (List ℕ) → ℕ → List (List ℕ) → ℕ → Option Ordering → Type 0
ComesNext first i second j None = (i ≡ length first) × (j ≡ length second)
ComesNext first i second j (Some Less) = (i < length first) × (j < length second → IsBelow (slice_index_or first i []) (slice_index_or second j []))
ComesNext first i second j (Some Equal) = (i < length first) × (j < length second) × (slice_index_or first i [] ≡ slice_index_or second j [])
ComesNext first i second j (Some Greater) = (j < length second) × (i < length first → IsBelow (slice_index_or second j []) (slice_index_or first i []))

-- the lexicon of the values of both lists, and the numbers of each list's values there
pub record Joins (first second values : List (List ℕ)) (of_first of_second : List ℕ) : Type 0 where
  pub lexicon : IsLexiconOf (first ++ second) values
  pub short : length values ≤ length first + length second
  pub numbers : Renumbers of_first first values
  pub others : Renumbers of_second second values

-- numbers that are renumbered in their turn
abbrev pub renumbered : List ℕ → List ℕ → List ℕ
renumbered next numbers = map (λ n. slice_index next n) numbers

-- values that are renumbered in turn, from an old list to a middle one and from there to a new one, are renumbered from the old one to the new one; so are
-- values that are kept
pub record RenumberInTurn : Type 0 where
  pub all : (numbers next : List ℕ) (old middle new : List (List ℕ)) → Renumbers numbers old middle → Renumbers next middle new → Renumbers (renumbered next numbers) old new
  pub kept : (flags : List Bool) (numbers next : List ℕ) (old middle new : List (List ℕ)) → RenumbersKept flags numbers old middle → Renumbers next middle new → RenumbersKept flags (renumbered next numbers) old new

-- two lexicons joined, where each stands for parts with renumberings of their own: these go on to the joined lexicon
pub record JoinsMerged (first second values : List (List ℕ)) (firsts seconds all : List (List ℕ)) : Type 0 where
  pub of_first : List ℕ
  pub of_second : List ℕ
  pub joined : Joins first second values of_first of_second
  pub go_on : all ≡ map (renumbered of_first) firsts ++ map (renumbered of_second) seconds

-- the lexicon of the values of all parts, and for each part the numbers of its values there
pub record Merges (parts : List (List (List ℕ))) (values : List (List ℕ)) (renumberings : List (List ℕ)) : Type 0 where
  pub lexicon : IsLexiconOf (all_values parts) values
  pub short : length values ≤ length (all_values parts)
  pub each : AllZip (λ part numbers. Renumbers numbers part values) parts renumberings
