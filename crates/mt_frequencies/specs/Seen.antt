-- How many spans have each value in their windows, by the numbers of a segment's values.
use Rattle.std.specs.Prelude.{ℕ, zero, suc, ◌≡◌, ◌++◌, map, ◌+◌, ◌-◌, ◌^◌, ◌<◌, ◌≤◌, ◌==◌, min, max, nat_lt, if◌then◌else◌, List, [], ◌∷◌, length, slice_index_or, count_by}
use Rattle.std.specs.List.{range_with_len}
use Rattle.mt_text_spec.specs.Texts.{Span}
use Rattle.mt_segment_spec.specs.Tables.{Tables, first_place}
use Rattle.mt_reports.specs.Told.{told_tokens, told_value}
use Rattle.mt_frequencies.specs.declared.distances.Around.{Around}
use Rattle.mt_frequencies.specs.declared.distances.Distances.{Distances}
use Rattle.mt_frequencies.specs.declared.distances.Places.{Places}
use Rattle.mt_frequencies.specs.declared.seen.Reached.{Reached}
use Rattle.mt_frequencies.specs.declared.seen.Seen.{Seen}

-- ## Windows

-- the places of a segment in the window of a span of a text
abbrev pub places_near : Around → Span → Places
places_near around span = record {
  before_from = around.first + (span.begin - (around.distances.before_to - 1));
  before_to = around.first + (span.begin - (around.distances.before_from - 1));
  behind_from = around.first + min (span.end - 1 + around.distances.behind_from) around.tokens;
  behind_to = around.first + min (span.end - 1 + around.distances.behind_to) around.tokens;
}

-- what the windows of the spans of a text are made of
abbrev pub around_text : Tables → (text : ℕ) → Distances → Around
around_text tables text distances = record { distances = distances; first = first_place tables text; tokens = told_tokens tables text }

-- the values at the places of a window
abbrev pub values_in : Tables → (attr : ℕ) → Places → List (List ℕ)
values_in tables attr places = map (told_value tables attr) (range_with_len places.before_from (places.before_to - places.before_from) ++ range_with_len places.behind_from (places.behind_to - places.behind_from))

-- how many places from one on and before another have a number, where at each place one stands
abbrev pub with_number : (at : ℕ → ℕ) → (number from to : ℕ) → ℕ
with_number at number from to = count_by (λ place. at place == number) (range_with_len from (to - from))

-- how many places of a window have it
abbrev pub in_window : (at : ℕ → ℕ) → (number : ℕ) → Places → ℕ
in_window at number places = with_number at number places.before_from places.before_to + with_number at number places.behind_from places.behind_to

-- a sum over so many numbers from one on
abbrev pub total : (ℕ → ℕ) → (from count : ℕ) → ℕ
total of from zero = 0
total of from (suc count) = total of from count + of (from + count)

-- how many of so many spans, from one on, have a number in their windows
abbrev pub spans_with : (at : ℕ → ℕ) → (number : ℕ) → (windows : ℕ → Places) → (from count : ℕ) → ℕ
spans_with at number windows from count = total (λ span. min 1 (in_window at number (windows span))) from count

-- the window of the span with a number
abbrev pub window_at : Around → List Span → (span : ℕ) → Places
window_at around spans span = places_near around (slice_index_or spans span (record { text = 0; begin = 0; end = 0 }))

-- the spans from one on and before another have a token and lie in a text of so many
pub record AreInside (tokens from to : ℕ) (spans : List Span) : Type 0 where
  pub some : (k : ℕ) (span : Span) → from ≤ k → k < to → (slice_index_or spans k span).begin < (slice_index_or spans k span).end
  pub inside : (k : ℕ) (span : Span) → from ≤ k → k < to → (slice_index_or spans k span).end ≤ tokens

-- ## What is counted

-- nothing was counted
abbrev pub no_seen : Seen
no_seen = record { spans = 0; last = 0; alone = 0 }

-- what was counted for a number
abbrev pub seen_at : List Seen → (number : ℕ) → Seen
seen_at all number = slice_index_or all number no_seen

-- The spans before this one are done with, and no other was counted.
pub record ArePast (span : ℕ) (all : List Seen) : Type 0 where
  pub spans : (number : ℕ) → (seen_at all number).spans ≤ span
  pub last : (number : ℕ) → (seen_at all number).last ≤ span
  pub alone : (number : ℕ) → (seen_at all number).alone ≤ span

-- the number of the span, plus one, that stands at a place and has its value nowhere before, as far as its window reaches; else 0
abbrev pub opened : Seen → Reached → ℕ
opened seen at = if nat_lt (max seen.last at.first) at.own then at.own else 0

-- Spans that reach a place have room in what was counted for its number.
pub record HasRoom (at : Reached) (seen : Seen) : Type 0 where
  pub order : max seen.last at.first ≤ at.behind
  pub own : at.own ≤ at.behind
  pub few : seen.spans + (at.behind - max seen.last at.first) + min 1 (seen.alone - at.first) < 2 ^ 32 + min 1 (opened seen at)

-- Those that reach the place and have not had its number so far are counted, but for the one that stands there itself; that one is counted at the next place, if it
-- reaches it.
pub record IsReached (at : Reached) (old new : Seen) : Type 0 where
  pub spans : new.spans + min 1 (opened old at) ≡ old.spans + (at.behind - max old.last at.first) + min 1 (old.alone - at.first)
  pub last : new.last ≡ at.behind
  pub alone : new.alone ≡ opened old at

-- for one number, and for no other
pub record AreReached (number : ℕ) (at : Reached) (old new : List Seen) : Type 0 where
  pub count : length new ≡ length old
  pub here : IsReached at (seen_at old number) (seen_at new number)
  pub others : (other : ℕ) → (other ≡ number → ⊥) → seen_at new other ≡ seen_at old other

-- how many spans were counted for each number
abbrev pub spans_seen : List Seen → List ℕ
spans_seen [] = []
spans_seen (seen ∷ all) = seen.spans ∷ spans_seen all

-- ## One span

-- a span is being counted, and those before it are done with
pub record AreAlmostPast (span : ℕ) (all : List Seen) : Type 0 where
  pub spans : (number : ℕ) → (seen_at all number).spans + (span + 1 - max (seen_at all number).last span) ≤ span + 1
  pub last : (number : ℕ) → (seen_at all number).last ≤ span + 1
  pub alone : (number : ℕ) → (seen_at all number).alone ≤ span

-- A span is counted for the numbers at the places from one on and before another, unless it was counted before.
pub record ArePart (at : ℕ → ℕ) (from to span : ℕ) (old new : List Seen) : Type 0 where
  pub count : length new ≡ length old
  pub last : (number : ℕ) → 0 < with_number at number from to → (seen_at new number).last ≡ span + 1
  pub spans : (number : ℕ) → 0 < with_number at number from to → (seen_at new number).spans ≡ (seen_at old number).spans + (span + 1 - max (seen_at old number).last span)
  pub others : (number : ℕ) → with_number at number from to ≡ 0 → seen_at new number ≡ seen_at old number
