-- Numbers that texts have in two lists.
use Rattle.std.specs.Prelude.{ℕ, ◌≡◌, ◌<◌, List, slice_get, Option, Some}
use Rattle.mt_counts.specs.Tables.{text_at}

-- for texts of one list, by their place there, places in another list where the same text stands, as far as they are known
abbrev pub AreNumbers : (from to : List (List ℕ)) → List (Option ℕ) → Type 0
AreNumbers from to numbers = (here there : ℕ) → slice_get numbers here ≡ Some (Some there) → slice_get to there ≡ Some (text_at from here)

-- they are known of texts below this number alone
abbrev pub AreWithin : (texts : ℕ) → List (Option ℕ) → Type 0
AreWithin texts numbers = (here there : ℕ) → slice_get numbers here ≡ Some (Some there) → here < texts
