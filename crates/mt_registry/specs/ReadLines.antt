-- What is so of the lines of a registry file that have been read.
use Rattle.std.specs.Prelude.{ℕ, ◌≡◌, ◌≤◌, ◌⊎◌, Bool, true, List, [], ◌∷◌, ◌++◌, length, IsUtf8, Option, None, Some}
use Rattle.std.specs.List.{All}
use Rattle.mt_text_spec.specs.Words.{IsIdentifier}
use Rattle.mt_file_spec.specs.RegistryFile.{Form, Skipped, Closing, Entry, Formless, Block, Effect, effect_of, innermost, is_heeded, keyword_of, Structure, Line, IsRefused, is_declaring}

-- the items, and one more at their end
abbrev pub with_option : {A : Type 0} → List A → Option A → List A
with_option items None = items
with_option items (Some item) = items ++ item ∷ []

-- the effect of the key of a line
abbrev pub form_effect : ℕ → List Block → Form → Option Effect
form_effect number open_blocks Skipped = None
form_effect number open_blocks Closing = None
form_effect number open_blocks Formless = None
form_effect number open_blocks (Entry key value opens) = effect_of number open_blocks key

-- a keyword declares what is no identifier
abbrev pub IsUnnamed : List ℕ → Option Effect → Type 0
IsUnnamed value None = ⊥
IsUnnamed value (Some effect) = (is_declaring effect.keyword ≡ true) × (IsIdentifier value → ⊥)

-- the line is not UTF-8, or declares what is no identifier
abbrev pub IsBadValue : List ℕ → List ℕ → Option Effect → Type 0
IsBadValue text value effect = (IsUtf8 text → ⊥) ⊎ IsUnnamed value effect

-- a block too deep is opened, or a structure is declared in a block that is not ignored
abbrev pub IsBadPlace : List Block → List ℕ → Bool → Type 0
IsBadPlace open_blocks key opens = ((opens ≡ true) × (2 ≤ length open_blocks)) ⊎ ((is_heeded (innermost open_blocks) ≡ true) × (keyword_of key ≡ Some Structure))

-- what is noted of a line where none was refused before
abbrev pub Notes : Line → Option ℕ → Type 0
Notes line None = IsRefused line → ⊥
Notes line (Some number) = (number ≡ line.number) × IsRefused line

-- the first refused line is noted, and no other
abbrev pub Refuses : Line → Option ℕ → Option ℕ → Type 0
Refuses line None new = Notes line new
Refuses line (Some old) new = new ≡ Some old

-- the line of this number is refused, and none before it
pub record FirstRefused (all : List Line) (number : ℕ) : Type 0 where
  pub before : List Line
  pub line : Line
  pub after : List Line
  pub are : all ≡ before ++ line ∷ after
  pub none : All (λ earlier. IsRefused earlier → ⊥) before
  pub here : IsRefused line
  pub place : line.number ≡ number

-- the number of the first refused line, or none where no line is refused
abbrev pub IsFirstRefused : List Line → Option ℕ → Type 0
IsFirstRefused all None = All (λ line. IsRefused line → ⊥) all
IsFirstRefused all (Some number) = FirstRefused all number
