-- What was counted for values.
use Rattle.std.specs.Prelude.{ℕ, ◌≡◌, ◌≤◌, nat_lt, nat_eq, if◌then◌else◌, Bool, false, List, [], ◌∷◌, ◌++◌, length, count_by}
use Rattle.std.specs.List.{list_any}
use Rattle.std.specs.Str.{bytes_eq}
use Rattle.std.specs.Cmp.Lexicographic.{pointwise}
use Rattle.mt_report_spec.specs.Counts.{Frequency}
use Rattle.mt_frequencies.specs.declared.tally.Count.{Count}

-- values, and what was counted for each of them
pub record Tallied : Type 0 where
  pub values : List (List ℕ)
  pub counts : List Count

-- nothing was counted
abbrev pub no_count : Count
no_count = record { spans = 0; last = 0 }

-- what was counted for a value, by the value
abbrev pub count_of : List (List ℕ) → List Count → (value : List ℕ) → Count
count_of [] counts value = no_count
count_of (one ∷ more) [] value = no_count
count_of (one ∷ more) (count ∷ counts) value = if bytes_eq value one then count else count_of more counts value

-- what a tally tells of a value
abbrev pub counts_in : Tallied → (value : List ℕ) → Count
counts_in tally value = count_of tally.values tally.counts value

-- some values were added behind the others
pub record Begins (old new : List (List ℕ)) : Type 0 where
  pub more : List (List ℕ)
  pub are : new ≡ old ++ more

-- a value is none of these
abbrev pub IsAbsent : List (List ℕ) → List ℕ → Type 0
IsAbsent values value = list_any (pointwise nat_eq value) values ≡ false

-- as many spans were counted for each value as have it near them, and they are numbered from 1
pub record IsTally {X : Type 0} (near : X → List (List ℕ)) (seen : List X) (counts : List ℕ → Count) : Type 0 where
  pub spans : (value : List ℕ) → (counts value).spans ≡ count_by (λ span. list_any (bytes_eq value) (near span)) seen
  pub last : (value : List ℕ) → (counts value).last ≤ length seen

-- ## What is listed of a tally

-- whether more spans than so many were counted for a value
abbrev pub is_counted : (more_than : ℕ) → (List ℕ → Count) → (value : List ℕ) → Bool
is_counted more_than counts value = nat_lt more_than (counts value).spans

-- a value with how many spans were counted for it
abbrev pub frequency_of : (List ℕ → Count) → (value : List ℕ) → Frequency
frequency_of counts value = record { value = value; spans = (counts value).spans }
