-- What every question that has a query is refused for: its text, its patterns, and too many rows.
use Rattle.std.specs.Prelude.{ℕ, List, [], ◌∷◌, drop, take, Result, Ok, Err}
use Rattle.std.specs.List.{prefix_len}
use Rattle.mt_text_spec.specs.Words.{is_identifier_byte}
use Rattle.mt_text_spec.specs.Queries.{Query}
use Rattle.mt_query_spec.specs.Verdicts as verdict
use Rattle.mt_query_spec.specs.Verdicts.{Means}
use Rattle.mt_match_spec.specs.Kept.{Over}
use Rattle.mt_query_spec.specs.Contents.{patterns}
use Rattle.mt_session_spec.specs.Scenes.{Scene}
use Rattle.mt_session_spec.specs.Gains.{Gained}
use Rattle.mt_session_spec.specs.Refusals.{Refusal, QueryTooLarge, BadQuery, UnknownName, BadPattern, TooManyRows, refusal_line, pattern_refused_line}
use Rattle.mt_session_spec.specs.Checks.{Check}
use Rattle.mt_session_spec.specs.Patterns.{IsFirstBad, IsDeep, IsRefused}

-- ## The text

-- What the text of a query means: the query, or why it is none. A bare string is a test of the first attribute that is declared.
abbrev pub Reads : Scene → List ℕ → Result Query verdict.Refusal → Type 0
Reads scene cql read = Means scene.registry 0 cql read

-- the name that begins at a byte of a text
abbrev pub name_at : List ℕ → ℕ → List ℕ
name_at text at = take (prefix_len is_identifier_byte (drop at text)) (drop at text)

-- the text is no query under the registry
pub data IsNoQuery (scene : Scene) (cql : List ℕ) : Refusal → Type 0 where
  Great : Reads scene cql (Err verdict.TooLarge) → IsNoQuery scene cql QueryTooLarge
  Faulty : (at : ℕ) (cause : verdict.Cause) → Reads scene cql (Err (verdict.Syntax at cause)) → IsNoQuery scene cql (BadQuery at cause)
  Undeclared : (at : ℕ) → Reads scene cql (Err (verdict.Unknown at)) → IsNoQuery scene cql (UnknownName (name_at cql at))

-- ## The patterns and the rows

-- the first pattern of the query that is none
pub data HasBadPattern (scene : Scene) (cql : List ℕ) : Refusal → Type 0 where
  Bad : (query : Query) (k : ℕ) → Reads scene cql (Ok query) → IsFirstBad (patterns query) k → HasBadPattern scene cql (BadPattern k)

-- the head or an operand of the query has too many rows over the whole corpus
pub data HasTooManyRows (scene : Scene) (cql : List ℕ) : Refusal → Type 0 where
  Many : (query : Query) → Reads scene cql (Ok query) → Over scene.images scene.registry scene.corpus query → HasTooManyRows scene cql TooManyRows

-- the checks of a query
abbrev pub query_checks : Scene → List ℕ → List Check
query_checks scene cql = IsNoQuery scene cql ∷ HasBadPattern scene cql ∷ HasTooManyRows scene cql ∷ []

-- ## Exceptions

-- What may be answered in place of all that: a pattern that nests too deep is told as none, or one that the shop refused in this command is told as refused. Each
-- pattern before it is one.
pub data ExceptsQuery (scene : Scene) (cql : List ℕ) (gained : Gained) : List ℕ → Type 0 where
  Deep : (query : Query) (k : ℕ) → Reads scene cql (Ok query) → IsDeep (patterns query) k → ExceptsQuery scene cql gained (refusal_line (BadPattern k))
  Refused : (query : Query) (k : ℕ) → Reads scene cql (Ok query) → IsRefused (patterns query) gained.refused k → ExceptsQuery scene cql gained (pattern_refused_line k)
