-- What the tokens of the program stand for.
use Rattle.std.specs.Prelude.{ℕ, ◌≡◌, Option, None, Some, Result, Ok, Err}
use Rattle.mt_query_spec.specs.Tokens as t
use Rattle.mt_cql.specs.declared.token.Sign.{Sign}
use Rattle.mt_cql.specs.declared.token.Sign.TheVariants as s
use Rattle.mt_cql.specs.declared.token.Token.{Token}
use Rattle.mt_cql.specs.declared.token.Token.TheVariants.{Quoted, Number, Word, OpenCurly, Mark}
use Rattle.mt_cql.specs.declared.token.Unlexed.{Unlexed}
use Rattle.mt_cql.specs.declared.token.Unlexed.TheVariants.{NoToken, NoEnd}

abbrev pub sign_seen : Sign → t.Sign
sign_seen s.Differs = t.Differs
sign_seen s.Same = t.Same
sign_seen s.IsNot = t.IsNot
sign_seen s.ClosingTag = t.ClosingTag
sign_seen s.WholeEnd = t.WholeEnd
sign_seen s.Is = t.Is
sign_seen s.Bang = t.Bang
sign_seen s.TagBegin = t.TagBegin
sign_seen s.TagEnd = t.TagEnd
sign_seen s.OpenSquare = t.OpenSquare
sign_seen s.CloseSquare = t.CloseSquare
sign_seen s.OpenRound = t.OpenRound
sign_seen s.CloseRound = t.CloseRound
sign_seen s.CloseCurly = t.CloseCurly
sign_seen s.Comma = t.Comma
sign_seen s.Colon = t.Colon
sign_seen s.Dot = t.Dot
sign_seen s.Bar = t.Bar
sign_seen s.And = t.And
sign_seen s.Star = t.Star
sign_seen s.Plus = t.Plus
sign_seen s.Question = t.Question

abbrev pub token_seen : Token → t.Token
token_seen (Quoted content) = t.Quoted content.now
token_seen (Number at value) = t.Number at value
token_seen (Word at name) = t.Word at name.now
token_seen (OpenCurly at) = t.OpenCurly at
token_seen (Mark sign) = t.Mark (sign_seen sign)

abbrev pub unlexed_seen : Unlexed → t.Unlexed
unlexed_seen NoToken = t.NoToken
unlexed_seen NoEnd = t.NoEnd

abbrev pub maybe_sign_seen : Option Sign → Option t.Sign
maybe_sign_seen None = None
maybe_sign_seen (Some sign) = Some (sign_seen sign)

abbrev pub long_sign_seen : Option (Sign × ℕ) → Option (t.Sign × ℕ)
long_sign_seen None = None
long_sign_seen (Some found) = Some (sign_seen found.0, found.1)

-- a token and how many bytes it takes behind its first, or why none begins
abbrev pub LexemeSeen : Result (Token × ℕ) Unlexed → t.Lexeme → Type 0
LexemeSeen (Ok found) lexeme = lexeme ≡ Ok (token_seen found.0, found.1)
LexemeSeen (Err why) lexeme = lexeme ≡ Err (unlexed_seen why)
