-- The numbers of an attribute's values, as a segment's tables tell them.
use Rattle.std.specs.Prelude.{ℕ, ◌≡◌, ◌<◌, length, slice_index}
use Rattle.mt_segment_spec.specs.Tables.{Tables, number_at, tables_at, token_count}
use Rattle.mt_frequencies.specs.declared.numbers.Numbers.{Numbers}
use Rattle.mt_frequencies.specs.declared.numbers.Numbers.TheVariants.{Base, Mapped}

-- a number stands at a place
abbrev pub IsPlace : Numbers → (place : ℕ) → Type 0
IsPlace (Base column) place = place < length column.now
IsPlace (Mapped column table) place = (place < length column.now) × (slice_index column.now place < length table.now)

-- the number there
abbrev pub number_in : Numbers → (place : ℕ) → ℕ
number_in (Base column) place = slice_index column.now place
number_in (Mapped column table) place = slice_index table.now (slice_index column.now place)

-- at each place of a segment the number of an attribute's value
pub record AreNumbersOf (tables : Tables) (attr : ℕ) (numbers : Numbers) : Type 0 where
  pub there : (place : ℕ) → place < token_count tables → IsPlace numbers place
  pub are : (place : ℕ) → place < token_count tables → number_in numbers place ≡ number_at tables attr place
  pub within : (place : ℕ) → place < token_count tables → number_at tables attr place < length (tables_at tables.attrs attr).lexicon
