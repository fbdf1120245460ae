-- The tokens of a query's text, a list of bytes.
use Rattle.std.specs.Prelude.{ℕ, max, zero, suc, ◌+◌, ◌-◌, ◌*◌, ◌==◌, ◌||◌, ◌&&◌, Bool, true, false, nat_lt, cond, List, [], ◌∷◌, take, slice_index, Option, None, Some, Result, Ok, Err}
use Rattle.std.specs.List.{prefix_len}
use Rattle.std.specs.Char.{is_ascii_digit}
use Rattle.std.specs.Option.{option_map as map_option}
use Rattle.mt_text_spec.specs.Words.{is_identifier_start, is_identifier_byte}

-- the signs, in the order `!==`, `==`, `!=`, `</`, `/>`, `=`, `!`, `<`, `>`, `[`, `]`, `(`, `)`, `}`, `,`, `:`, `.`, `|`, `&`, `*`, `+`, `?`
pub data Sign : Type 0 where
  Differs : Sign
  Same : Sign
  IsNot : Sign
  ClosingTag : Sign
  WholeEnd : Sign
  Is : Sign
  Bang : Sign
  TagBegin : Sign
  TagEnd : Sign
  OpenSquare : Sign
  CloseSquare : Sign
  OpenRound : Sign
  CloseRound : Sign
  CloseCurly : Sign
  Comma : Sign
  Colon : Sign
  Dot : Sign
  Bar : Sign
  And : Sign
  Star : Sign
  Plus : Sign
  Question : Sign

-- A token: a string by what stands between its quotes, a number, an identifier, a sign. A number, an identifier and `{` know at which byte of the text they
-- begin, since a refusal may name that place.
pub data Token : Type 0 where
  Quoted : (content : List ℕ) → Token
  Number : (at value : ℕ) → Token
  Word : (at : ℕ) (name : List ℕ) → Token
  OpenCurly : (at : ℕ) → Token
  Mark : (sign : Sign) → Token

-- why no token begins at a place: no token begins so, or a string does that has no end
pub data Unlexed : Type 0 where
  NoToken : Unlexed
  NoEnd : Unlexed

-- space and tab
abbrev pub is_blank : ℕ → Bool
is_blank b = b == 32 || b == 9

-- how many bytes stand before the quote that ends a string: the first that no backslash takes. A backslash takes the character behind it, which may be a
-- backslash. `taken` says whether one stands before.
abbrev pub string_length : (taken : Bool) → List ℕ → Option ℕ
string_length taken [] = None
string_length true (b ∷ rest) = map_option suc (string_length false rest)
string_length false (b ∷ rest) = cond (b == 34) (Some 0) (map_option suc (string_length (b == 92) rest))

-- the value of digits behind a number: each digit counts ten times what the next one does
abbrev pub decimal_value : ℕ → List ℕ → ℕ
decimal_value value [] = value
decimal_value value (digit ∷ rest) = decimal_value (10 * value + (digit - 48)) rest

-- the sign of one byte
abbrev pub sign_of : ℕ → Option Sign
sign_of b =
    cond (b == 61) (Some Is) (cond (b == 33) (Some Bang) (cond (b == 60) (Some TagBegin) (cond (b == 62) (Some TagEnd)
    (cond (b == 91) (Some OpenSquare) (cond (b == 93) (Some CloseSquare) (cond (b == 40) (Some OpenRound) (cond (b == 41) (Some CloseRound)
    (cond (b == 125) (Some CloseCurly) (cond (b == 44) (Some Comma) (cond (b == 58) (Some Colon) (cond (b == 46) (Some Dot)
    (cond (b == 124) (Some Bar) (cond (b == 38) (Some And) (cond (b == 42) (Some Star) (cond (b == 43) (Some Plus)
    (cond (b == 63) (Some Question) None))))))))))))))))

-- the sign of more than one byte that begins here, the longest, and how many further bytes it takes
abbrev pub long_sign : ℕ → List ℕ → Option (Sign × ℕ)
long_sign b rest =
    let next = slice_index rest 0 in
    cond (b == 33 && next == 61) (cond (slice_index rest 1 == 61) (Some (Differs, 2)) (Some (IsNot, 1)))
    (cond (b == 61 && next == 61) (Some (Same, 1)) (cond (b == 60 && next == 47) (Some (ClosingTag, 1)) (cond (b == 47 && next == 62) (Some (WholeEnd, 1)) None)))

-- what begins at a place: a token and how many bytes it takes behind its first, or why none does
abbrev pub Lexeme : Type 0
Lexeme = Result (Token × ℕ) Unlexed

-- the `{` or the sign that begins at a byte, the longest one, or that no token begins there
abbrev pub sign_at : ℕ → ℕ → List ℕ → Lexeme
sign_at at b rest = cond (b == 123) (Ok (OpenCurly at, 0)) (elim (long_sign b rest) [
  | Some found ↦ Ok (Mark found.0, found.1)
  | None ↦ elim (sign_of b) [ Some sign ↦ Ok (Mark sign, 0) | None ↦ Err NoToken ]
])

-- a string takes its content and the quote behind it
abbrev pub string_at : List ℕ → Lexeme
string_at rest = elim (string_length false rest) [ Some n ↦ Ok (Quoted (take n rest), suc n) | None ↦ Err NoEnd ]

-- a number is all neighbouring digits, at most nine
abbrev pub number_at : ℕ → ℕ → List ℕ → Lexeme
number_at at b rest = let n = prefix_len is_ascii_digit rest in cond (nat_lt n 9) (Ok (Number at (decimal_value 0 (b ∷ take n rest)), n)) (Err NoToken)

-- an identifier is all neighbouring letters, digits and `_`, at most 64
abbrev pub word_at : ℕ → ℕ → List ℕ → Lexeme
word_at at b rest = let n = prefix_len is_identifier_byte rest in cond (nat_lt n 64) (Ok (Word at (b ∷ take n rest), n)) (Err NoToken)

-- what begins with this byte and goes on so
unfoldable pub lexeme : ℕ → ℕ → List ℕ → Lexeme
lexeme at b rest = cond (b == 34) (string_at rest) (cond (is_ascii_digit b) (number_at at b rest) (cond (is_identifier_start b) (word_at at b rest) (sign_at at b rest)))

-- The tokens of a text, each with its place, up to its end or to the first place at which no token begins.
pub record Tokens : Type 0 where
  pub tokens : List (ℕ × Token)
  pub stop : Option (ℕ × Unlexed)

-- these tokens with one before them
abbrev pub preceded : ℕ × Token → Tokens → Tokens
preceded first others = record { tokens = first ∷ others.tokens; stop = others.stop }

-- the tokens from a place on, where `within` more bytes belong to the token before; blanks stand between tokens
unfoldable pub tokens_from : (at within : ℕ) → List ℕ → Tokens
tokens_from at within [] = record { tokens = []; stop = None }
tokens_from at (suc within) (b ∷ rest) = tokens_from (suc at) within rest
tokens_from at zero (b ∷ rest) = cond (is_blank b) (tokens_from (suc at) zero rest) (elim (lexeme at b rest) [
  | Ok found ↦ preceded (at, found.0) (tokens_from (suc at) found.1 rest)
  | Err why ↦ record { tokens = []; stop = Some (at, why) }
])

-- the tokens of a text
abbrev pub tokens_of : List ℕ → Tokens
tokens_of text = tokens_from 0 0 text

-- How deep a text nests up to a place: how many `(` are open there, how many were at most, and whether a string stands there, and in it a backslash before.
pub record Nesting : Type 0 where
  pub opened : ℕ
  pub most : ℕ
  pub in_string : Bool
  pub taken : Bool

-- behind one byte more: `(` and `)` count outside strings; a `)` where none is open changes nothing, and a string that does not end hides the rest
abbrev pub nested : Nesting → ℕ → Nesting
nested before b = cond before.in_string
    (cond before.taken (record before { taken = false }) (record before { in_string = cond (b == 34) false true; taken = b == 92 }))
    (cond (b == 34) (record before { in_string = true; taken = false })
    (cond (b == 40) (record before { opened = before.opened + 1; most = max before.most (before.opened + 1) })
    (cond (b == 41) (record before { opened = before.opened - 1 }) before)))

-- behind all these bytes
abbrev pub nesting_from : Nesting → List ℕ → Nesting
nesting_from before [] = before
nesting_from before (b ∷ rest) = nesting_from (nested before b) rest

-- how many `(` are open at once in a text, at most
abbrev pub deepest : List ℕ → ℕ
deepest text = (nesting_from (record { opened = 0; most = 0; in_string = false; taken = false }) text).most
