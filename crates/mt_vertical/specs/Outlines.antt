-- What is kept of a text of which the tokens are only counted: how many they are, and the instances.
use Rattle.std.specs.Prelude.{ℕ, ◌≡◌, List, length, Option}
use Rattle.mt_text_spec.specs.Registries.{Registry, base_count}
use Rattle.mt_text_spec.specs.Texts.{Text, Token, StructSpan}
use Rattle.mt_file_spec.specs.Vertical.{TextCause, Vertical}
use Rattle.mt_vertical.specs.Readers.{State, Kept, IsSound, IsRead, state_of}

-- these tokens, behind which stand these instances
abbrev pub with_tokens : Registry → List Token → List Kept → State
with_tokens registry tokens kinds = state_of (base_count registry.attrs) tokens kinds

-- a line behind so many tokens was read, or has this cause first, whatever the tokens before it are
abbrev pub IsCounted : Registry → ℕ → List Kept → List ℕ → ℕ → List Kept → Option TextCause → Type 0
IsCounted registry count old line new_count new found = (tokens : List Token) → count ≡ length tokens → IsSound registry (with_tokens registry tokens old) →
    (after : List Token) × (new_count ≡ length after) × IsRead registry (with_tokens registry tokens old) line (with_tokens registry after new) found

-- the text of this name that the bytes are read as has so many tokens and these instances
pub record IsOutlineOf (registry : Registry) (name bytes : List ℕ) (tokens : ℕ) (structs : List StructSpan) : Type 0 where
  pub text : Text
  pub read : Vertical registry name bytes text
  pub count : tokens ≡ length text.tokens
  pub instances : structs ≡ text.structs
