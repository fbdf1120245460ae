-- Where the instances of a tag lie in one text: its spans there, and sets of the places where they begin and end.
use Rattle.std.specs.Prelude.{ℕ, ◌≡◌, ◌+◌, ◌/◌, ◌<◌, ◌≤◌, ◌⊎◌, List, length, slice_index_or}
use Rattle.std.specs.List.{Contains}
use Rattle.mt_text_spec.specs.Texts.{Span, StructSpan}
use Rattle.mt_text_spec.specs.Queries as q
use Rattle.mt_places.specs.Places.{HasJust}
use Rattle.mt_segment_spec.specs.Tables.{Tables}
use Rattle.mt_eval_spec.specs.Told.{IsToldInstance, told_tokens}
use Rattle.mt_automaton.specs.Parts.{Tag}
use Rattle.mt_prepare.specs.declared.tag_rows.TagRows.{TagRows}

-- ## The order of spans by their numbers

-- a span comes before another, in the order of spans
abbrev pub IsBefore : Span → Span → Type 0
IsBefore span later = (span.text < later.text) ⊎ ((span.text ≡ later.text) × ((span.begin < later.begin) ⊎ ((span.begin ≡ later.begin) × (span.end < later.end))))

-- the place of the first span that does not come before a key
pub record IsFirstFrom (spans : List Span) (key : Span) (at : ℕ) : Type 0 where
  pub within : at ≤ length spans
  pub before : (k : ℕ) (d : Span) → k < at → IsBefore (slice_index_or spans k d) key
  pub behind : (k : ℕ) (d : Span) → at ≤ k → k < length spans → ¬ IsBefore (slice_index_or spans k d) key

-- before all spans of a text, and behind those of the one before it
abbrev pub key_of : (text : ℕ) → Span
key_of text = record { text = text; begin = 0; end = 0 }

-- the places, in a list of spans, from which and before which those of a text stand
pub record StandBetween (spans : List Span) (text from to : ℕ) : Type 0 where
  pub first : IsFirstFrom spans (key_of text) from
  pub last : IsFirstFrom spans (key_of (text + 1)) to

-- a span of the text from a place on that has a token
pub record IsLongerAt (spans : List Span) (text begin end : ℕ) : Type 0 where
  pub some : begin < end
  pub there : Contains spans (record { text = text; begin = begin; end = end })

-- A span of the text ends at the place, and this span begins behind a begin, or there and does not end before an end.
pub record IsLastOfText (spans : List Span) (text begin end place : ℕ) : Type 0 where
  pub first : ℕ
  pub there : Contains spans (record { text = text; begin = first; end = place })
  pub later : (begin < first) ⊎ ((begin ≡ first) × (end ≤ place))

-- ## Sets of what items of a list have

-- an item of the list, from one place on and before another, has this number
pub record IsOfSome {X : Type 0} (W : X → ℕ → Type 0) (items : List X) (from to number : ℕ) : Type 0 where
  pub at : ℕ
  pub low : from ≤ at
  pub high : at < to
  pub has : (d : X) → W (slice_index_or items at d) number

abbrev pub BeginsAt : Span → (place : ℕ) → Type 0
BeginsAt span place = span.begin ≡ place

abbrev pub EndsAt : StructSpan → (place : ℕ) → Type 0
EndsAt span place = span.end ≡ place

-- it begins and ends there
abbrev pub IsEmptyAt : Span → (place : ℕ) → Type 0
IsEmptyAt span place = (span.begin ≡ place) × (span.end ≡ place)

-- ## A tag in a text

-- The sets have the places where instances of the tag begin, where any of its kind end, and where empty ones of the tag stand; of the tag's spans in the segment
-- it is known which are those of the text.
pub record AreRowsOf (tables : Tables) (text : ℕ) (tag : Tag) (spans : List Span) (rows : TagRows) : Type 0 where
  pub stand : StandBetween spans text rows.from rows.to
  pub begins_width : length rows.begins ≡ told_tokens tables text / 64 + 1
  pub ends_width : length rows.ends ≡ told_tokens tables text / 64 + 1
  pub empty_width : length rows.empty ≡ told_tokens tables text / 64 + 1
  pub begins : HasJust (λ place. (end : ℕ) × IsToldInstance tables text tag.kind tag.test place end) rows.begins
  pub ends : HasJust (λ place. (begin : ℕ) × IsToldInstance tables text tag.kind q.Any begin place) rows.ends
  pub empty : HasJust (λ place. IsToldInstance tables text tag.kind tag.test place place) rows.empty
