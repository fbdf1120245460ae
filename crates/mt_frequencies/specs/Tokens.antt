-- How many tokens of live texts have a value, as the tables of segments tell it.
use Rattle.std.specs.Prelude.{ℕ, ◌≡◌, ◌+◌, ◌-◌, ◌<◌, ◌==◌, List, [], ◌∷◌, length, count_by, sum_by, slice_index, slice_index_or}
use Rattle.std.specs.List.{AllPairs, All, range_with_len}
use Rattle.std.specs.Str.{bytes_eq}
use Rattle.mt_segment_spec.specs.Tables.{Tables, first_place, number_at, tables_at, token_count}
use Rattle.mt_reports.specs.Told.{told_value}

-- how many places from one on and before another have the value with this number
abbrev pub places_with : Tables → (attr number from to : ℕ) → ℕ
places_with tables attr number from to = count_by (λ place. number_at tables attr place == number) (range_with_len from (to - from))

-- how many tokens of a text have it
abbrev pub text_places : Tables → (attr number text : ℕ) → ℕ
text_places tables attr number text = places_with tables attr number (first_place tables text) (first_place tables (text + 1))

-- ascending numbers of texts
pub record AreTextNumbers (tables : Tables) (live : List ℕ) : Type 0 where
  pub ascending : AllPairs (λ text later. text < later) live
  pub within : All (λ text. text < length tables.texts) live

-- What is passed over between live texts: for each number of a value, how many tokens of texts that are not live have it. With those of the live ones they are all.
pub record ArePassed (tables : Tables) (attr : ℕ) (live passed : List ℕ) : Type 0 where
  pub each : (number : ℕ) → number < length (tables_at tables.attrs attr).lexicon →
      slice_index passed number + sum_by (text_places tables attr number) live ≡ places_with tables attr number 0 (token_count tables)

-- the same of each segment
pub record AreAllPassed (segments : List Tables) (attr : ℕ) (live passed : List (List ℕ)) : Type 0 where
  pub live_count : length live ≡ length segments
  pub count : length passed ≡ length segments
  pub each : (k : ℕ) (tables : Tables) → k < length segments → ArePassed (slice_index_or segments k tables) attr (slice_index_or live k []) (slice_index_or passed k [])

-- how many tokens of a text have a value
abbrev pub text_tokens_with : Tables → (attr : ℕ) → (value : List ℕ) → (text : ℕ) → ℕ
text_tokens_with tables attr value text =
    count_by (λ place. bytes_eq value (told_value tables attr place)) (range_with_len (first_place tables text) (first_place tables (text + 1) - first_place tables text))

-- how many tokens of the live texts of a segment have it
abbrev pub live_tokens_with : Tables → (attr : ℕ) → (live : List ℕ) → (value : List ℕ) → ℕ
live_tokens_with tables attr live value = sum_by (text_tokens_with tables attr value) live

-- and how many tokens of the live texts of all segments
abbrev pub told_tokens_with : List Tables → (attr : ℕ) → (live : List (List ℕ)) → (value : List ℕ) → ℕ
told_tokens_with [] attr live value = 0
told_tokens_with (tables ∷ segments) attr [] value = 0
told_tokens_with (tables ∷ segments) attr (numbers ∷ live) value = live_tokens_with tables attr numbers value + told_tokens_with segments attr live value
