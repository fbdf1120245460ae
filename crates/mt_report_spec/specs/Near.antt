-- The values near a span: at places that are told by their distances from it.
use Rattle.std.specs.Prelude.{ℕ, zero, suc, ◌+◌, ◌-◌, nat_lt, if◌then◌else◌, Bool, true, false, ℤ, pos, negsuc, ◌+ℤ◌, List, [], ◌∷◌, length, map, Option, Some, None}
use Rattle.std.specs.List.{filter, filter_map}
use Rattle.std.specs.Int.{int_gap}
use Rattle.mt_text_spec.specs.Registries.{Registry}
use Rattle.mt_text_spec.specs.Texts.{Text, Span}
use Rattle.mt_match_spec.specs.Values.{Images, value_at}
use Rattle.mt_report_spec.specs.Lines.{text_at}

-- The place so far from a run of tokens: before its first token where the distance is negative, else behind its last one. There is none outside the text.
abbrev pub place_at : (tokens first last : ℕ) → (distance : ℤ) → Option ℕ
place_at tokens first last (pos n) = if nat_lt (last + n) tokens then Some (last + n) else None
place_at tokens first last (negsuc n) = if nat_lt n first then Some (first - (n + 1)) else None

-- the places at these distances that lie in the text
abbrev pub places_at : (tokens first last : ℕ) → (distances : List ℤ) → List ℕ
places_at tokens first last distances = filter_map (place_at tokens first last) distances

-- so many whole numbers from one on
abbrev pub numbers_from : ℤ → (count : ℕ) → List ℤ
numbers_from first zero = []
numbers_from first (suc count) = first ∷ numbers_from (first +ℤ pos 1) count

-- whether a distance leads out of the span
abbrev pub is_outside : ℤ → Bool
is_outside (pos zero) = false
is_outside (pos (suc n)) = true
is_outside (negsuc n) = true

-- the distances of a window from the first to the last of them, without 0: the span itself is no part of its window
abbrev pub window : (first last : ℤ) → List ℤ
window first last = filter is_outside (numbers_from first (int_gap first last + 1))

-- What is near a span: values of an attribute at distances from its first token, or before its first and behind its last.
pub record Near : Type 0 where
  pub attr : ℕ
  pub distances : List ℤ
  pub behind_last : Bool

-- so far from the begin of a span, whatever the span's length is
abbrev pub near_begin : (attr : ℕ) → (distance : ℤ) → Near
near_begin attr distance = record { attr = attr; distances = distance ∷ []; behind_last = false }

-- in the window of a span
abbrev pub in_window : (attr : ℕ) → (first last : ℤ) → Near
in_window attr first last = record { attr = attr; distances = window first last; behind_last = true }

-- the token from which distances to the right count
abbrev pub last_token : Near → Span → ℕ
last_token near span = if near.behind_last then span.end - 1 else span.begin

-- the values near a span of a text, one for each place
abbrev pub values_near : Images → Registry → Near → Text → Span → List (List ℕ)
values_near images registry near text span = map (value_at images registry text near.attr) (places_at (length text.tokens) span.begin (last_token near span) near.distances)

-- the values near a span of the corpus
abbrev pub values_by : Images → Registry → List Text → Near → Span → List (List ℕ)
values_by images registry corpus near span = values_near images registry near (text_at corpus span.text) span
