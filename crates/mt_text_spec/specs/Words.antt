-- The forms of names and identifiers.
use Rattle.std.specs.Prelude.{ℕ, ◌≡◌, ◌<◌, ◌≤◌, ◌==◌, Bool, true, ◌||◌, List, length, slice_index}
use Rattle.std.specs.List.{AllPass}
use Rattle.std.specs.Char.{is_ascii_alphanumeric, is_ascii_alphabetic}

-- a letter, a digit, `_`, `-` or `.`
abbrev pub is_name_byte : ℕ → Bool
is_name_byte b = is_ascii_alphanumeric b || b == 95 || b == 45 || b == 46

-- a name, of a text or a file, is 1 to 64 such bytes, and begins with a letter or a digit
pub record IsName (bytes : List ℕ) : Type 0 where
  pub some : 0 < length bytes
  pub short : length bytes ≤ 64
  pub first : is_ascii_alphanumeric (slice_index bytes 0) ≡ true
  pub each : AllPass is_name_byte bytes

-- a letter or `_`
abbrev pub is_identifier_start : ℕ → Bool
is_identifier_start b = is_ascii_alphabetic b || b == 95

-- a letter, a digit or `_`
abbrev pub is_identifier_byte : ℕ → Bool
is_identifier_byte b = is_ascii_alphanumeric b || b == 95

-- an identifier, of an attribute or a structure, is 1 to 64 such bytes, and begins with a letter or `_`
pub record IsIdentifier (bytes : List ℕ) : Type 0 where
  pub some : 0 < length bytes
  pub short : length bytes ≤ 64
  pub first : is_identifier_start (slice_index bytes 0) ≡ true
  pub each : AllPass is_identifier_byte bytes
