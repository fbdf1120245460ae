-- How a text is read from its vertical, the file that has one token a line and tags of structures on lines of their own.
use Rattle.std.specs.Prelude.{ℕ, zero, suc, ◌≡◌, ◌+◌, ◌<◌, ◌==◌, Bool, false, if◌then◌else◌, List, [], ◌∷◌, ◌++◌, length, take, drop, codes, IsUtf8}
use Rattle.std.specs.List.{Any, flat_map}
use Rattle.std.specs.Str.{bytes_eq}
use Rattle.std.specs.Str.Lines.{lines}
use Rattle.mt_text_spec.specs.Registries.{Registry}
use Rattle.mt_text_spec.specs.Texts.{Token, StructSpan, Text, text_tokens_limit, value_bytes_limit}
use Rattle.mt_file_spec.specs.VerticalLines.{Role, Opens, Stands, Closes, Gives, Plays}

-- one byte order mark in front is no part of a text
abbrev pub byte_order_mark : List ℕ
byte_order_mark = 239 ∷ 187 ∷ 191 ∷ []

-- the bytes without a byte order mark in front
abbrev pub without_mark : List ℕ → List ℕ
without_mark bytes = if bytes_eq (take 3 bytes) byte_order_mark then drop 3 bytes else bytes

-- the lines of a vertical
abbrev pub text_lines : List ℕ → List (List ℕ)
text_lines bytes = lines (without_mark bytes)

-- ## Tokens

-- the token of a line that is one
abbrev pub token_in : Role → List Token
token_in (Gives token) = token ∷ []
token_in role = []

-- the tokens are those of the token lines, in order
abbrev pub tokens_in : List Role → List Token
tokens_in roles = flat_map token_in roles

-- ## Instances of structures

-- the place behind a line: how many token lines there are up to it
abbrev pub past : ℕ → Role → ℕ
past place (Gives token) = place + 1
past place role = place

-- whether a line is a tag of this kind, of any form
abbrev pub is_tag_of : ℕ → Role → Bool
is_tag_of kind (Opens number values) = number == kind
is_tag_of kind (Stands number values) = number == kind
is_tag_of kind (Closes number) = number == kind
is_tag_of kind role = false

-- the place of the first tag line of this kind among the lines from here on, or the place behind all of them
abbrev pub next_place : ℕ → ℕ → List Role → ℕ
next_place kind place [] = place
next_place kind place (role ∷ roles) = if is_tag_of kind role then place else next_place kind (past place role) roles

-- what a line at this place begins, where those lines follow: an opened instance ends at the next tag of its kind, an empty one where it begins
abbrev pub begun : ℕ → ℕ → List Role → Role → List StructSpan
begun kind place after (Opens number values) = if number == kind then (record { kind = kind; begin = place; end = next_place kind place after; values = values }) ∷ [] else []
begun kind place after (Stands number values) = if number == kind then (record { kind = kind; begin = place; end = place; values = values }) ∷ [] else []
begun kind place after role = []

-- the instances of this kind that the lines from this place on begin, in order
abbrev pub instances_from : ℕ → ℕ → List Role → List StructSpan
instances_from kind place [] = []
instances_from kind place (role ∷ roles) = begun kind place roles role ++ instances_from kind (past place role) roles

-- the instances of the first kinds, so many, kind after kind
abbrev pub instances_in : ℕ → List Role → List StructSpan
instances_in zero roles = []
instances_in (suc kinds) roles = instances_in kinds roles ++ instances_from kinds 0 roles

-- ## Refusals

-- Why a line refuses a text: it is not UTF-8; it is a token line behind as many as a text may have; a value that it gives is too long.
pub data TextCause : Type 0 where
  NotUtf8 : TextCause
  TooManyTokens : TextCause
  ValueTooLong : TextCause

-- the word for a cause
abbrev pub text_cause : TextCause → List ℕ
text_cause NotUtf8 = codes "NotUtf8"
text_cause TooManyTokens = codes "TooManyTokens"
text_cause ValueTooLong = codes "ValueTooLong"

-- the values that a line gives its text
abbrev pub kept : Role → List (List ℕ)
kept (Opens kind values) = values
kept (Stands kind values) = values
kept (Gives token) = token.values
kept role = []

-- a line behind so many tokens has this cause
abbrev pub HasCause : Registry → ℕ → List ℕ → TextCause → Type 0
HasCause registry place line NotUtf8 = ¬ IsUtf8 line
HasCause registry place line TooManyTokens = (place ≡ text_tokens_limit) × ((token : Token) × Plays registry line (Gives token))
HasCause registry place line ValueTooLong = (role : Role) × Plays registry line role × Any (λ value. value_bytes_limit < length value) (kept role)

-- the lines from this place on do this, each in turn, and none has a cause
abbrev pub AreRead : Registry → ℕ → List (List ℕ) → List Role → Type 0
AreRead registry place [] [] = Unit {0}
AreRead registry place [] (role ∷ roles) = ⊥
AreRead registry place (line ∷ ls) [] = ⊥
AreRead registry place (line ∷ ls) (role ∷ roles) =
    Plays registry line role × ((cause : TextCause) → ¬ HasCause registry place line cause) × AreRead registry (past place role) ls roles

-- ## The text

-- the text of this name that the bytes are read as, where no line has a cause
pub record Vertical (registry : Registry) (name bytes : List ℕ) (text : Text) : Type 0 where
  pub roles : List Role
  pub read : AreRead registry 0 (text_lines bytes) roles
  pub named : text.name ≡ name
  pub tokens : text.tokens ≡ tokens_in roles
  pub structs : text.structs ≡ instances_in (length registry.kinds) roles

-- the order of causes on one line
abbrev pub cause_rank : TextCause → ℕ
cause_rank NotUtf8 = 0
cause_rank TooManyTokens = 1
cause_rank ValueTooLong = 2

-- the line of this number, counted from 1, is the first that has a cause, and this is the first cause that it has
pub record FirstTextFault (registry : Registry) (bytes : List ℕ) (number : ℕ) (cause : TextCause) : Type 0 where
  pub before : List (List ℕ)
  pub line : List ℕ
  pub after : List (List ℕ)
  pub are : text_lines bytes ≡ before ++ line ∷ after
  pub place : number ≡ length before + 1
  pub roles : List Role
  pub read : AreRead registry 0 before roles
  pub has : HasCause registry (length (tokens_in roles)) line cause
  pub first : (other : TextCause) → cause_rank other < cause_rank cause → ¬ HasCause registry (length (tokens_in roles)) line other
