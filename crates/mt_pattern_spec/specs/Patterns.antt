-- Which texts are patterns, and which values one accepts, by the definitions of `regex` alone.
use Rattle.std.specs.Prelude.{ℕ, ◌≡◌, ◌<◌, ◌⊎◌, ◌↔◌, List, ◌++◌, length, slice_get, Bool, true, false, codes, chars, Option, None, Some, IsSome, IsSomeAnd, is_some}
use Rattle.regex.specs.Patterns.{find_str, default_config}
use Rattle.regex_hir.specs.Re.{Re}
use Rattle.regex_syntax.specs.Brackets.{Nested}
use Rattle.regex_syntax.specs.Grammar.{Names, read}

-- what a text is read as, with the default options: an expression and the names of its groups, or nothing where it is no pattern
abbrev pub reading : List ℕ → Option (Nested Re × Names)
reading text = read default_config (chars text)

-- a text is a pattern where it can be read
abbrev pub IsPattern : List ℕ → Type 0
IsPattern text = IsSome (reading text)

-- a pattern that nests deeper than `regex` allows, which may be refused
abbrev pub IsTooDeep : List ℕ → Type 0
IsTooDeep text = IsSomeAnd (reading text) (λ (re, _). 250 < re.depth)

-- whether what was read has a match somewhere in the value
abbrev pub finds_read : Option (Nested Re × Names) → List ℕ → Bool
finds_read None value = false
finds_read (Some (re, _)) value = is_some (find_str re.value value 0)

-- whether a pattern has a match somewhere in the value; a text that is no pattern has none
abbrev pub finds : List ℕ → List ℕ → Bool
finds text value = finds_read (reading text) value

-- the pattern between marks for the start and the end of a value, so that a match is the whole value
abbrev pub wrapped : List ℕ → List ℕ
wrapped pattern = codes "\\A(?:" ++ pattern ++ codes ")\\z"

-- A pattern accepts a value where it and the wrapped one are patterns, and the wrapped one has a match in the value.
pub record Accepts (pattern value : List ℕ) : Type 0 where
  pub alone : IsPattern pattern
  pub whole : IsPattern (wrapped pattern)
  pub found : finds (wrapped pattern) value ≡ true

-- Marks, one for each value of a lexicon, say which values the pattern accepts.
pub record MarksAccepted (pattern : List ℕ) (lexicon : List (List ℕ)) (marks : List Bool) : Type 0 where
  pub count : length marks ≡ length lexicon
  pub exactly : (id : ℕ) (value : List ℕ) → slice_get lexicon id ≡ Some value → (slice_get marks id ≡ Some true ↔ Accepts pattern value)

-- A text that may be refused as no pattern: it is none, or, alone or wrapped, it nests deeper than `regex` allows.
abbrev pub MayBeNoPattern : List ℕ → Type 0
MayBeNoPattern text = IsPattern text → IsPattern (wrapped text) → IsTooDeep text ⊎ IsTooDeep (wrapped text)
