-- The forms of the lines of a registry file, as one writes them.
use Rattle.std.specs.Prelude.{ℕ, ◌≡◌, ◌≢◌, ◌-◌, ◌<◌, ◌⊎◌, true, false, List, [], ◌∷◌, ◌++◌, length, slice_index}
use Rattle.std.specs.List.{AllPass}
use Rattle.mt_text_spec.specs.Words.{is_identifier_byte}
use Rattle.mt_file_spec.specs.RegistryFile.{is_blank, Form, Skipped, Closing, Entry, Formless, form_of}

-- one or more blanks
pub record IsGap (bytes : List ℕ) : Type 0 where
  pub some : 0 < length bytes
  pub each : AllPass is_blank bytes

-- one or more letters, digits and `_`
pub record IsKey (bytes : List ℕ) : Type 0 where
  pub some : 0 < length bytes
  pub each : AllPass is_identifier_byte bytes

-- a text that neither begins nor ends with a blank
pub record IsTight (text : List ℕ) : Type 0 where
  pub some : 0 < length text
  pub first : is_blank (slice_index text 0) ≡ false
  pub last : is_blank (slice_index text (length text - 1)) ≡ false

-- in quotes
abbrev pub quoted : List ℕ → List ℕ
quoted inner = 34 ∷ inner ++ 34 ∷ []

-- a value as it is written: in quotes, or without where it has none round it
abbrev pub IsWritten : List ℕ → List ℕ → Type 0
IsWritten text value = (text ≡ quoted value) ⊎ (((inner : List ℕ) → text ≢ quoted inner) × (text ≡ value))

-- a text that is an opening brace, or ends with one behind a blank
abbrev pub EndsOpening : List ℕ → Type 0
EndsOpening text = (text ≡ 123 ∷ []) ⊎ ((front : List ℕ) × (b : ℕ) × (is_blank b ≡ true) × (text ≡ front ++ b ∷ 123 ∷ []))

-- Blanks may stand at both ends of a line. It is empty, a comment, a closing brace, or a key and a value, with an opening brace behind it or without one.
pub data IsForm (line : List ℕ) (form : Form) : Type 0 where
  Empty : AllPass is_blank line → form ≡ Skipped → IsForm line form
  Comment : (left rest : List ℕ) → AllPass is_blank left → line ≡ left ++ 35 ∷ rest → form ≡ Skipped → IsForm line form
  Brace : (left right : List ℕ) → AllPass is_blank left → AllPass is_blank right → line ≡ left ++ 125 ∷ right → form ≡ Closing → IsForm line form
  Lone : (left key gap text right value : List ℕ) → AllPass is_blank left → IsKey key → IsGap gap → IsTight text → (EndsOpening text → ⊥) → IsWritten text value → AllPass is_blank right →
      line ≡ left ++ (key ++ (gap ++ (text ++ right))) → form ≡ Entry key value false → IsForm line form
  Opening : (left key gap text before right value : List ℕ) → AllPass is_blank left → IsKey key → IsGap gap → IsTight text → IsWritten text value → IsGap before → AllPass is_blank right →
      line ≡ left ++ (key ++ (gap ++ (text ++ (before ++ 123 ∷ right)))) → form ≡ Entry key value true → IsForm line form

-- what is written so is read so, and what has a form is written so
pub record FormsAreWritten : Type 0 where
  pub read : (line : List ℕ) (form : Form) → IsForm line form → form_of line ≡ form
  pub written : (line : List ℕ) (form : Form) → form_of line ≡ form → form ≢ Formless → IsForm line form
