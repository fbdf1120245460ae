-- What a row gives under a name, by its labels alone.
use Rattle.std.specs.Prelude.{ℕ, List}
use Rattle.mt_text_spec.specs.Texts.{Row}
use Rattle.mt_match_spec.specs.Labels.{IsSetTo}
use Rattle.mt_count_spec.specs.Instances.{Instance, AtTwo, AtOne, IsPair, IsFilled}

-- the name at the place of label 1
pub data OfOne (name : List ℕ) (row : Row) : Instance → Type 0 where
  One : (p : ℕ) → IsSetTo row.labels 1 p → OfOne name row (AtOne name p)

-- the name at the places of labels 1 and 2
pub data OfPair (name : List ℕ) (row : Row) : Instance → Type 0 where
  Pair : (p q : ℕ) → IsPair row p q → OfPair name row (AtTwo name p q)

-- the name at the places of labels 2 and 1
pub data OfTurned (name : List ℕ) (row : Row) : Instance → Type 0 where
  Turned : (p q : ℕ) → IsPair row p q → OfTurned name row (AtTwo name q p)

-- the name that is filled with the value at the place of label 3, at the places of labels 1 and 2
pub data OfFilled (name : List ℕ) (value : ℕ → List ℕ) (row : Row) : Instance → Type 0 where
  Filled : (p q r : ℕ) (final : List ℕ) → IsPair row p q → IsSetTo row.labels 3 r → IsFilled name (value r) final → OfFilled name value row (AtTwo final p q)
