-- Names that have values in place of `%s`.
use Rattle.std.specs.Prelude.{ℕ, ◌≡◌, ◌⊎◌, ◌<◌, List, length, slice_get, Some}
use Rattle.std.specs.List.{Contains}
use Rattle.mt_count_spec.specs.Instances.{IsFilled}
use Rattle.mt_counts.specs.Tables.{text_at}

-- nothing is in a list but what was, and perhaps this item
abbrev pub HasOnly : {X : Type 0} → (old : List X) (item : X) (new : List X) → Type 0
HasOnly {X} old item new = (x : X) → Contains new x → Contains old x ⊎ (x ≡ item)

-- The name with this number, filled with the value of this number, is the name of that number.
pub record IsFill (names lexicon : List (List ℕ)) (name value number : ℕ) : Type 0 where
  pub named : name < length names
  pub filled : List ℕ
  pub there : slice_get names number ≡ Some filled
  pub is : IsFilled (text_at names name) (text_at lexicon value) filled

-- and so it is with all that are known
abbrev pub AreFills : (names lexicon : List (List ℕ)) → List ((ℕ × ℕ) × ℕ) → Type 0
AreFills names lexicon fills = (name value number : ℕ) → Contains fills ((name, value), number) → IsFill names lexicon name value number
