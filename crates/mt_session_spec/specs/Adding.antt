-- `text` and `add`: a text is read from a body or a file, and held from now on.
use Rattle.std.specs.Prelude.{ℕ, ◌≡◌, List, [], ◌∷◌, ◌++◌, length, codes, Some}
use Rattle.std.specs.Fmt.{decimal}
use Rattle.mt_text_spec.specs.Registries.{Registry}
use Rattle.mt_text_spec.specs.Texts.{Text}
use Rattle.mt_text_spec.specs.Queries.{Grammar}
use Rattle.mt_file_spec.specs.Vertical.{Vertical, FirstTextFault, TextCause}
use Rattle.mt_rule_spec.specs.Rules.{HasTooManyIn}
use Rattle.mt_session_spec.specs.World.{Held, World, Holds, IsFull, with_text}
use Rattle.mt_session_spec.specs.Settings.{Setting, images_of}
use Rattle.mt_session_spec.specs.Refusals.{Refusal, NameTaken, BadVertical, CorpusFull, TooManyRows}
use Rattle.mt_session_spec.specs.Checks.{Check, When}
use Rattle.mt_session_spec.specs.Answers.{Answer, Lines}
use Rattle.mt_session_spec.specs.Files.{IsFile, file_checks}
use Rattle.mt_session_spec.specs.Meaning.{Meaning, Exception, LoadsNone, LoadsBehind}

-- ## A text of these bytes, whichever way they came

-- a line of the bytes is bad
pub data IsNoText (registry : Registry) (Given : List ℕ → Type 0) : Refusal → Type 0 where
  BadLine : (bytes : List ℕ) (line : ℕ) (cause : TextCause) → Given bytes → FirstTextFault registry bytes line cause → IsNoText registry Given (BadVertical line cause)

-- the bytes are a text of this name, for which there is no room
pub record IsTooMuch (held : Held) (name : List ℕ) (Given : List ℕ → Type 0) : Type 0 where
  pub bytes : List ℕ
  pub given : Given bytes
  pub text : Text
  pub read : Vertical held.registry name bytes text
  pub full : IsFull held.groups (length text.tokens)

-- The bytes are a text of this name in which some query of the grammar that is held has too many rows. The patterns of that grammar were found to be such when it was
-- accepted.
pub record IsTooRich (setting : Setting) (held : Held) (name : List ℕ) (Given : List ℕ → Type 0) : Type 0 where
  pub grammar : Grammar
  pub ruled : held.grammar ≡ Some grammar
  pub bytes : List ℕ
  pub given : Given bytes
  pub text : Text
  pub read : Vertical held.registry name bytes text
  pub many : HasTooManyIn (images_of setting) held.registry grammar text

-- the name of a new text is free
abbrev pub name_checks : Held → List ℕ → List Check
name_checks held name = When (Holds held name) (NameTaken name) ∷ []

-- the bytes are a text, there is room for it, and the grammar that is held has not too many rows in it
abbrev pub text_checks : Setting → Held → List ℕ → (List ℕ → Type 0) → List Check
text_checks setting held name Given = IsNoText held.registry Given ∷ When (IsTooMuch held name Given) CorpusFull ∷ When (IsTooRich setting held name Given) TooManyRows ∷ []

-- the text is held from now on, and the reply is the number of its tokens
pub record AddsText (world : World) (name : List ℕ) (Given : List ℕ → Type 0) (new : World) (answer : Answer) : Type 0 where
  pub bytes : List ℕ
  pub given : Given bytes
  pub text : Text
  pub read : Vertical world.held.registry name bytes text
  pub changed : new ≡ record world { held = with_text world.held text }
  pub says : answer ≡ Lines ((codes "ok " ++ decimal (length text.tokens)) ∷ [])

-- ## The commands

-- `text`: the lines behind the command are the text of this name
abbrev pub texting : Setting → World → List ℕ → List ℕ → Meaning
texting setting world name body = record {
  checks = name_checks world.held name ++ text_checks setting world.held name (λ bytes. bytes ≡ body);
  Accepts = AddsText world name (λ bytes. bytes ≡ body);
  Excepts = Exception world LoadsNone;
}

-- `add`: the file is the text of this name
abbrev pub adding : Setting → World → List ℕ → List ℕ → Meaning
adding setting world name file = record {
  checks = name_checks world.held name ++ file_checks world.files file ++ text_checks setting world.held name (IsFile world.files file);
  Accepts = AddsText world name (IsFile world.files file);
  Excepts = Exception world (LoadsBehind (name_checks world.held name) file);
}
