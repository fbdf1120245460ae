-- The shape of a match: how long it is, and how far behind its begin each of its labels stands.
use Rattle.std.specs.Prelude.{ℕ, ◌≡◌, ◌+◌, ◌/◌, ◌≤◌, ◌⊎◌, List, length}
use Rattle.std.specs.List.{AllByRecursion}
use Rattle.std.specs.declared.cmp.Ordering.{Ordering}
use Rattle.std.specs.Ordering.{nat_cmp, on, then_cmp}
use Rattle.std.specs.Cmp.Lexicographic.{slice_cmp}
use Rattle.mt_text_spec.specs.Texts.{Row, unset}
use Rattle.mt_places.specs.Places.{In}
use Rattle.mt_automaton.specs.Windows.{moved}
use Rattle.mt_shapes.specs.declared.shape.Shape.{Shape}

-- shapes by their length, then by their labels, the first label first
abbrev pub shape_cmp : Shape → Shape → Ordering
shape_cmp = then_cmp (on (λ s. s.length) nat_cmp) (on (λ s. s.labels) (slice_cmp nat_cmp))

-- a label that is not set, or stands at the end of a match of so many tokens or before it
abbrev pub IsWithin : (length place : ℕ) → Type 0
IsWithin length place = (place ≡ unset) ⊎ (place ≤ length)

-- a match of this shape, whose begin is in the set
pub record IsOf (shape : Shape) (begins : List ℕ) (begin end : ℕ) (labels : List ℕ) : Type 0 where
  pub is_in : In begins begin
  pub end_is : end ≡ begin + shape.length
  pub labels_are : labels ≡ moved begin shape.labels

-- Matches of this shape that begin in the set lie in a text of so many tokens, each label between their begin and their end.
pub record Suits (tokens : ℕ) (shape : Shape) (begins : List ℕ) : Type 0 where
  pub width : length begins ≡ tokens / 64 + 1
  pub inside : (begin : ℕ) → In begins begin → begin + shape.length ≤ tokens
  pub nine : length shape.labels ≡ 9
  pub labels : AllByRecursion (IsWithin shape.length) shape.labels

-- the row of a match of this shape
abbrev pub row_of : Shape → (text begin : ℕ) → Row
row_of shape text begin = record { span = record { text = text; begin = begin; end = begin + shape.length }; labels = moved begin shape.labels }
