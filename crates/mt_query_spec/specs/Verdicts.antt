-- What a text is: a query, or a refusal with its place.
use Rattle.std.specs.Prelude.{ℕ, suc, ◌≡◌, Bool, true, false, cond, nat_lt, ◌||◌, List, ◌++◌, map, take, length, slice_get, Option, None, Some, Result, Ok, Err}
use Rattle.mt_text_spec.specs.Registries.{Registry}
use Rattle.mt_text_spec.specs.Queries.{Query}
use Rattle.mt_query_spec.specs.Tokens.{Token, Unlexed, NoToken, NoEnd, tokens_of, deepest}
use Rattle.mt_query_spec.specs.Trees.{QueryTree, query_tokens}
use Rattle.mt_query_spec.specs.Meaning.{query_of, query_unknown, query_range_fault, query_label_fault}
use Rattle.mt_query_spec.specs.Measures.{nodes, size}

-- why a place is at fault: no query goes on with this token; a string that has no end; no token begins here; a repetition from more to fewer; a label at fault
pub data Cause : Type 0 where
  NoQuery : Cause
  NoStringEnd : Cause
  NoTokenBegins : Cause
  Range : Cause
  BadLabel : Cause

-- what a text is refused for
pub data Refusal : Type 0 where
  TooLarge : Refusal
  Syntax : (at : ℕ) (cause : Cause) → Refusal
  Unknown : (at : ℕ) → Refusal

-- the tokens without their places
abbrev pub plain : List (ℕ × Token) → List Token
plain tokens = map (λ placed. placed.1) tokens

-- some query begins with these tokens. Its length, its nesting and its names are free, and it may be one that is refused for a range or a label.
pub record Begins (tokens : List Token) : Type 0 where
  pub query : QueryTree
  pub more : List Token
  pub written : query_tokens query ≡ tokens ++ more

-- the text has more than 4,096 bytes, or more than 32 `(` are open at once
abbrev pub is_too_long : List ℕ → Bool
is_too_long text = nat_lt 4096 (length text) || nat_lt 32 (deepest text)

-- why a text is refused at a place at which no token begins
abbrev pub unlexed_cause : Unlexed → Cause
unlexed_cause NoToken = NoTokenBegins
unlexed_cause NoEnd = NoStringEnd

-- the least place of a range or a label at fault
abbrev pub worst : Option ℕ → Option ℕ → Option (ℕ × Cause)
worst None None = None
worst (Some range) None = Some (range, Range)
worst None (Some label) = Some (label, BadLabel)
worst (Some range) (Some label) = Some (cond (nat_lt range label) (range, Range) (label, BadLabel))

-- the query has more than 256 nodes, or its size passes 4,096
abbrev pub is_too_great : Query → Bool
is_too_great query = nat_lt 256 (nodes query) || nat_lt 4096 (size query)

-- what is said of a query by its range or label at fault, its undeclared name, and whether it is too great
abbrev pub judged : Option (ℕ × Cause) → Option ℕ → Bool → Query → Result Query Refusal
judged (Some fault) unknown great query = Err (Syntax fault.0 fault.1)
judged None (Some at) great query = Err (Unknown at)
judged None None true query = Err TooLarge
judged None None false query = Ok query

-- a range or a label at fault is told first, then a name that is not declared, then that the query is too great
abbrev pub verdict : Registry → (default : ℕ) → QueryTree → Result Query Refusal
verdict registry default tree =
    judged (worst (query_range_fault tree) (query_label_fault tree)) (query_unknown registry tree) (is_too_great (query_of registry default tree)) (query_of registry default tree)

-- What a text is under a registry and a default attribute.
pub data Means (registry : Registry) (default : ℕ) (text : List ℕ) : Result Query Refusal → Type 0 where
  -- It is too long, or nests too deep: this is told before all else.
  too_long : is_too_long text ≡ true → Means registry default text (Err TooLarge)
  -- No token begins at a place, and some query begins with the tokens before it.
  unlexed : is_too_long text ≡ false → (at : ℕ) (why : Unlexed) → (tokens_of text).stop ≡ Some (at, why) → Begins (plain (tokens_of text).tokens)
      → Means registry default text (Err (Syntax at (unlexed_cause why)))
  -- A token at which no query begins with the tokens up to it: the first such.
  no_query : is_too_long text ≡ false → (number at : ℕ) (token : Token) → slice_get (tokens_of text).tokens number ≡ Some (at, token)
      → Begins (take number (plain (tokens_of text).tokens)) → (Begins (take (suc number) (plain (tokens_of text).tokens)) → ⊥)
      → Means registry default text (Err (Syntax at NoQuery))
  -- The end comes too early.
  cut_short : is_too_long text ≡ false → (tokens_of text).stop ≡ None → Begins (plain (tokens_of text).tokens)
      → ((query : QueryTree) → query_tokens query ≡ plain (tokens_of text).tokens → ⊥) → Means registry default text (Err (Syntax (length text) NoQuery))
  -- It is written as a query.
  written : is_too_long text ≡ false → (tokens_of text).stop ≡ None → (query : QueryTree) → query_tokens query ≡ plain (tokens_of text).tokens
      → Means registry default text (verdict registry default query)
