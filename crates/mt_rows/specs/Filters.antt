-- Filters by the spans of an operand, where both lists stand in the order of their begins.
use Rattle.std.specs.Prelude.{ℕ, ◌≡◌, ◌<◌, ◌≤◌, ◌⊎◌, Bool, true, false, List, length, slice_get, Option, Some, None}
use Rattle.mt_text_spec.specs.Texts.{Span}
use Rattle.mt_text_spec.specs.Queries.{FilterKind, Within, NotWithin, Containing, NotContaining}

-- the filter, or its contrary where it is negated
abbrev pub within_kind : (negated : Bool) → FilterKind
within_kind false = Within
within_kind true = NotWithin

-- the same of `containing`
abbrev pub containing_kind : (negated : Bool) → FilterKind
containing_kind false = Containing
containing_kind true = NotContaining

-- a span begins in an earlier text than another, or in the same text no later
abbrev pub BeginsBy : (span other : Span) → Type 0
BeginsBy span other = (span.text < other.text) ⊎ ((span.text ≡ other.text) × (span.begin ≤ other.begin))

-- no span of a list begins after a later one
abbrev pub InOrder : List Span → Type 0
InOrder spans = (i j : ℕ) (s t : Span) → i < j → slice_get spans i ≡ Some s → slice_get spans j ≡ Some t → BeginsBy s t

-- ## A sweep from the front

-- of the first n spans, those in the last text of them, none ends after this one
pub record IsFarthest (operand : List Span) (n : ℕ) (best : Span) : Type 0 where
  pub at : ℕ
  pub below : at < n
  pub is : slice_get operand at ≡ Some best
  pub most : (k : ℕ) (s : Span) → k < n → slice_get operand k ≡ Some s → (s.text < best.text) ⊎ ((s.text ≡ best.text) × (s.end ≤ best.end))

abbrev pub Farthest : List Span → ℕ → Option Span → Type 0
Farthest operand n None = n ≡ 0
Farthest operand n (Some best) = IsFarthest operand n best

-- the first n spans begin by the begin of a span
pub record Front (operand : List Span) (n : ℕ) (best : Option Span) (to : Span) : Type 0 where
  pub within : n ≤ length operand
  pub early : (k : ℕ) (s : Span) → k < n → slice_get operand k ≡ Some s → BeginsBy s to
  pub farthest : Farthest operand n best

-- the best one is in the text of a span, and ends no earlier
abbrev pub Reaches : Option Span → Span → Type 0
Reaches None span = ⊥
Reaches (Some best) span = (best.text ≡ span.text) × (span.end ≤ best.end)

-- ## A sweep from the back

-- of the spans from number n on, those in the first text of them, none ends before this one
pub record IsNearest (operand : List Span) (n : ℕ) (best : Span) : Type 0 where
  pub at : ℕ
  pub above : n ≤ at
  pub is : slice_get operand at ≡ Some best
  pub least : (k : ℕ) (s : Span) → n ≤ k → slice_get operand k ≡ Some s → (best.text < s.text) ⊎ ((s.text ≡ best.text) × (best.end ≤ s.end))

abbrev pub Nearest : List Span → ℕ → Option Span → Type 0
Nearest operand n None = length operand ≤ n
Nearest operand n (Some best) = IsNearest operand n best

-- a span begins by the begins of those from number n on
pub record Back (operand : List Span) (n : ℕ) (best : Option Span) (to : Span) : Type 0 where
  pub within : n ≤ length operand
  pub late : (k : ℕ) (s : Span) → n ≤ k → slice_get operand k ≡ Some s → BeginsBy to s
  pub nearest : Nearest operand n best

-- the best one is in the text of a span, and ends no later
abbrev pub EndsBy : Option Span → Span → Type 0
EndsBy None span = ⊥
EndsBy (Some best) span = (best.text ≡ span.text) × (best.end ≤ span.end)
