-- Why something is refused for one of its patterns, which are counted from 1 in the order of the text.
use Rattle.std.specs.Prelude.{ℕ, suc, ◌≡◌, ◌⊎◌, List, ◌∷◌, ◌++◌, length}
use Rattle.std.specs.List.{All, Contains}
use Rattle.mt_pattern_spec.specs.Patterns.{IsPattern, IsTooDeep, wrapped}

-- a pattern of whole values: it is a pattern by itself, and between marks for the start and the end of a value
pub record IsWhole (text : List ℕ) : Type 0 where
  pub alone : IsPattern text
  pub whole : IsPattern (wrapped text)

-- the text with the number k, where each one before it is a pattern of whole values
pub record StopsAt (texts : List (List ℕ)) (k : ℕ) (text : List ℕ) : Type 0 where
  pub before : List (List ℕ)
  pub behind : List (List ℕ)
  pub split : texts ≡ before ++ text ∷ behind
  pub number : k ≡ suc (length before)
  pub patterns : All IsWhole before

-- the first text that is no pattern of whole values has the number k
pub record IsFirstBad (texts : List (List ℕ)) (k : ℕ) : Type 0 where
  pub text : List ℕ
  pub stops : StopsAt texts k text
  pub none : ¬ IsWhole text

-- the text with the number k nests deeper, alone or between the marks, than patterns may
pub record IsDeep (texts : List (List ℕ)) (k : ℕ) : Type 0 where
  pub text : List ℕ
  pub stops : StopsAt texts k text
  pub deep : IsTooDeep text ⊎ IsTooDeep (wrapped text)

-- this pattern is among those that were refused, alone or between the marks
abbrev pub IsAmong : List (List ℕ) → List ℕ → Type 0
IsAmong refused text = Contains refused text ⊎ Contains refused (wrapped text)

-- the text with the number k is among those that were refused
pub record IsRefused (texts refused : List (List ℕ)) (k : ℕ) : Type 0 where
  pub text : List ℕ
  pub stops : StopsAt texts k text
  pub among : IsAmong refused text
