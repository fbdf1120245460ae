-- How many spans have each value so far from their begins, by the numbers of a segment's values.
use Rattle.std.specs.Prelude.{ℕ, ◌≡◌, ◌+◌, ◌-◌, ◌^◌, ◌<◌, ◌≤◌, if◌then◌else◌, ℤ, List, [], ◌∷◌, length, map, take, count_by}
use Rattle.std.specs.List.{list_any}
use Rattle.std.specs.Str.{bytes_eq}
use Rattle.mt_text_spec.specs.Texts.{Span}
use Rattle.mt_segment_spec.specs.Tables.{Tables, first_place, token_count}
use Rattle.mt_report_spec.specs.Near.{places_at}
use Rattle.mt_reports.specs.Told.{told_tokens, told_value}
use Rattle.mt_frequencies.specs.declared.begins.Reach.{Reach}
use Rattle.mt_frequencies.specs.declared.tally.Count.{Count}

-- ## Counts by numbers

-- what is counted for a value, where there is a count for each number of a lexicon
abbrev pub amount_of : (lexicon : List (List ℕ)) → (counts : List ℕ) → (value : List ℕ) → ℕ
amount_of [] counts value = 0
amount_of (one ∷ more) [] value = 0
amount_of (one ∷ more) (count ∷ counts) value = (if bytes_eq value one then count else 0) + amount_of more counts value

-- how many of the spans have a value near them
abbrev pub having : (Span → List (List ℕ)) → (value : List ℕ) → List Span → ℕ
having near value spans = count_by (λ span. list_any (bytes_eq value) (near span)) spans

-- the spans from one on and before another were counted
pub record AreMore (lexicon : List (List ℕ)) (near : Span → List (List ℕ)) (spans : List Span) (from to : ℕ) (old new : List ℕ) : Type 0 where
  pub each : (value : List ℕ) → amount_of lexicon new value + having near value (take from spans) ≡ amount_of lexicon old value + having near value (take to spans)

-- for each number of a lexicon a count, which together are those of the spans from one on and before another
pub record HasAmounts (lexicon : List (List ℕ)) (near : Span → List (List ℕ)) (spans : List Span) (from to : ℕ) (counts : List ℕ) : Type 0 where
  pub count : length counts ≡ length lexicon
  pub each : (value : List ℕ) → amount_of lexicon counts value + having near value (take from spans) ≡ having near value (take to spans)

-- ## Places so far from begins

-- the place in a segment that is so far from the begin of a span of a text, if it lies in the text
abbrev pub places_told : Tables → (text : ℕ) → (distance : ℤ) → (begin : ℕ) → List ℕ
places_told tables text distance begin = map (λ place. first_place tables text + place) (places_at (told_tokens tables text) begin begin (distance ∷ []))

-- the value there
abbrev pub values_told : Tables → (attr text : ℕ) → (distance : ℤ) → (begin : ℕ) → List (List ℕ)
values_told tables attr text distance begin = map (told_value tables attr) (places_told tables text distance begin)

-- From one begin on and before another the places lie in the text, and they follow one another.
pub record IsReach (tables : Tables) (text : ℕ) (distance : ℤ) (reach : Reach) : Type 0 where
  pub inside : (begin : ℕ) → reach.from ≤ begin → begin < reach.to → places_told tables text distance begin ≡ (reach.place + (begin - reach.from)) ∷ []
  pub within : (begin : ℕ) → reach.from ≤ begin → begin < reach.to → reach.place + (begin - reach.from) < token_count tables
  pub few : (begin : ℕ) → reach.from ≤ begin → begin < reach.to → reach.place + (begin - reach.from) < 2 ^ 32
  pub before : (begin : ℕ) → begin < reach.from → places_told tables text distance begin ≡ []
  pub behind : (begin : ℕ) → reach.to ≤ begin → begin < told_tokens tables text → places_told tables text distance begin ≡ []

-- ## Counts of a tally

-- so many spans more
abbrev pub raised : (more : ℕ) → Count → Count
raised more count = record { spans = count.spans + more; last = count.last + more }

-- so many spans more are counted for one value, and for no other
pub record IsRaised (old : List ℕ → Count) (value : List ℕ) (more : ℕ) (new : List ℕ → Count) : Type 0 where
  pub each : (other : List ℕ) → new other ≡ raised (if bytes_eq other value then more else 0) (old other)
