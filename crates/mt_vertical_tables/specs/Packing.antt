-- Short values packed into numbers, and entries that tell the numbers of such values.
use Rattle.std.specs.Prelude.{ℕ, ◌≡◌, ◌+◌, ◌*◌, ◌^◌, ◌<◌, List, [], ◌∷◌, slice_get, slice_index, Some}
use Rattle.mt_vertical_tables.specs.declared.known.Known.{Known}

-- the bytes of a value as digits behind those of a number
abbrev pub digits_behind : ℕ → List ℕ → ℕ
digits_behind key [] = key
digits_behind key (byte ∷ value) = digits_behind (key * 256 + byte) value

-- the number of a value: a 1 with its bytes as digits behind it, so that values of different lengths have different numbers
pub record IsPacked (value : List ℕ) (key : ℕ) : Type 0 where
  pub bytes : (k : ℕ) → slice_index value k < 256
  pub is : key ≡ digits_behind 1 value

-- the key of an entry, from its two parts
abbrev pub key_of : Known → ℕ
key_of entry = entry.high * 2 ^ 64 + entry.low

-- the entry packs a value that was seen under its number
pub record Tells (seen : List (List ℕ)) (entry : Known) : Type 0 where
  pub value : List ℕ
  pub packs : IsPacked value (key_of entry)
  pub at : slice_get seen entry.number ≡ Some value

-- an entry with a key does
abbrev pub IsKnown : List (List ℕ) → Known → Type 0
IsKnown seen entry = 0 < key_of entry → Tells seen entry
