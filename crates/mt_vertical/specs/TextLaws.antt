-- Bytes are read as one text, or refused for one cause.
use Rattle.std.specs.Prelude.{◌≡◌, ℕ, List}
use Rattle.mt_text_spec.specs.Registries.{Registry, ValidRegistry}
use Rattle.mt_text_spec.specs.Texts.{Text, ValidText}
use Rattle.mt_text_spec.specs.Words.{IsName}
use Rattle.mt_file_spec.specs.VerticalLines.{Role, Plays}
use Rattle.mt_file_spec.specs.Vertical.{TextCause, Vertical, FirstTextFault}

-- a line does one thing
abbrev pub OneRole : Type 0
OneRole = (registry : Registry) (line : List ℕ) (a b : Role) → ValidRegistry registry → Plays registry line a → Plays registry line b → a ≡ b

-- bytes are read as at most one text
abbrev pub OneText : Type 0
OneText = (registry : Registry) (name bytes : List ℕ) (a b : Text) → ValidRegistry registry → Vertical registry name bytes a → Vertical registry name bytes b → a ≡ b

-- what they are read as is valid
abbrev pub ValidTexts : Type 0
ValidTexts = (registry : Registry) (name bytes : List ℕ) (text : Text) → IsName name → Vertical registry name bytes text → ValidText registry text

-- they are read as none where a line has a cause
abbrev pub NoTextWithFault : Type 0
NoTextWithFault = (registry : Registry) (name bytes : List ℕ) (text : Text) (line : ℕ) (cause : TextCause) → ValidRegistry registry → Vertical registry name bytes text → ¬ FirstTextFault registry bytes line cause

-- one line is the first that has a cause, and one is its first cause
abbrev pub OneFault : Type 0
OneFault = (registry : Registry) (bytes : List ℕ) (line other : ℕ) (cause another : TextCause) → ValidRegistry registry → FirstTextFault registry bytes line cause → FirstTextFault registry bytes other another →
    (line ≡ other) × (cause ≡ another)
