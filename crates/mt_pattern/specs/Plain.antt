-- Characters that stand for themselves in a pattern.
use Rattle.std.specs.Prelude.{ℕ, ◌≡◌, ◌↔◌, List, Bool, ◌||◌, nat_le, Option, Some, slice_get}
use Rattle.std.specs.Char.{is_ascii_alphanumeric}
use Rattle.mt_pattern_spec.specs.Patterns.{Accepts}

-- an ASCII letter or digit, or a byte of a character beyond ASCII
abbrev pub is_plain_byte : ℕ → Bool
is_plain_byte byte = is_ascii_alphanumeric byte || nat_le 128 byte

-- of the values of a lexicon the pattern accepts just the one with this number, or none where there is no number
abbrev pub AcceptsJust : (pattern : List ℕ) (lexicon : List (List ℕ)) (only : Option ℕ) → Type 0
AcceptsJust pattern lexicon only = (number : ℕ) (value : List ℕ) → slice_get lexicon number ≡ Some value → (only ≡ Some number ↔ Accepts pattern value)
