-- What the parser computes of a whole text.
use Rattle.std.specs.Prelude.{ℕ, cond, List, [], ◌∷◌, length, Option, None, Some, Result, Err}
use Rattle.mt_text_spec.specs.Registries.{Registry}
use Rattle.mt_text_spec.specs.Queries.{Query}
use Rattle.mt_query_spec.specs.Tokens.{Token, Tokens, Unlexed, tokens_of}
use Rattle.mt_query_spec.specs.Verdicts.{Refusal, TooLarge, Syntax, NoQuery, unlexed_cause, is_too_long}
use Rattle.mt_query_laws.specs.Machine.{and_then}
use Rattle.mt_query_laws.specs.Parts.{TestParts, Parts, FilterParts, CondsPart, part_ways}
use Rattle.mt_query_laws.specs.Exprs.{State, start, step, finish}

-- a query, or why the text is none
abbrev pub Answer : Type 0
Answer = Result Query Refusal

-- where the parser stands, with the parts that it has read
abbrev pub PartState : Type 0
PartState = State (λ of. TestParts) Parts FilterParts CondsPart

-- what is said, or that no query goes on at a place
abbrev pub or_refused : Option Answer → (at : ℕ) → Answer
or_refused (Some said) at = said
or_refused None at = Err (Syntax at NoQuery)

-- what is said where the tokens are read: the query that they are, or the place at which no token begins, or that the end comes too early
unfoldable pub end_of : Registry → (default : ℕ) → PartState → Option (ℕ × Unlexed) → ℕ → Answer
end_of registry default state (Some stop) end = Err (Syntax stop.0 (unlexed_cause stop.1))
end_of registry default state None end = or_refused (finish (part_ways registry default) state) end

-- what is said of the tokens from a state on; `end` is the length of the text
unfoldable pub read_from : Registry → (default : ℕ) → PartState → List (ℕ × Token) → Option (ℕ × Unlexed) → ℕ → Answer
read_from registry default state [] stop end = end_of registry default state stop end
read_from registry default state (first ∷ others) stop end =
    or_refused (and_then (step (part_ways registry default) state first.1) (λ next. Some (read_from registry default next others stop end))) first.0

-- what is said of tokens
unfoldable pub read : Registry → (default : ℕ) → Tokens → ℕ → Answer
read registry default tokens end = read_from registry default (start (part_ways registry default)) tokens.tokens tokens.stop end

-- what is said of a text
unfoldable pub answer : Registry → (default : ℕ) → List ℕ → Answer
answer registry default text = cond (is_too_long text) (Err TooLarge) (read registry default (tokens_of text) (length text))
