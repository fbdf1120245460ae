-- Counts by keys, and what they add up to.
use Rattle.std.specs.Prelude.{ℕ, ◌+◌, ◌≡◌, Bool, ◌&&◌, List, [], ◌∷◌, true, if◌then◌else◌, nat_eq}

-- the counts of the keys that pass a test, added up
abbrev pub total : {K : Type 0} → (K → Bool) → List (K × ℕ) → ℕ
total p [] = 0
total p (e ∷ es) = (if p e.0 then e.1 else 0) + total p es

-- all counts together
abbrev pub total_of_all : {K : Type 0} → List (K × ℕ) → ℕ
total_of_all es = total (λ key. true) es

-- whether a pair of numbers is this one
abbrev pub is_key : ℕ × ℕ → ℕ × ℕ → Bool
is_key key other = nat_eq key.0 other.0 && nat_eq key.1 other.1

-- the count of a pair, 0 where it has none
abbrev pub count_at : List ((ℕ × ℕ) × ℕ) → ℕ × ℕ → ℕ
count_at entries key = total (is_key key) entries

-- so much was taken from what counts for a key, and nothing else
abbrev pub IsLowered : {K : Type 0} → (key : K) (by : ℕ) (old new : List (K × ℕ)) → Type 0
IsLowered {K} key by old new = (p : K → Bool) → total p old ≡ total p new + total p ((key, by) ∷ [])

-- what some keys count is what they count in both parts
abbrev pub AddUp : {K : Type 0} → (first second all : List (K × ℕ)) → Type 0
AddUp {K} first second all = (p : K → Bool) → total p all ≡ total p first + total p second
