-- `count`: how many spans a query has.
use Rattle.std.specs.Prelude.{ℕ, ◌≡◌, List, [], ◌∷◌, ◌++◌, length, codes, Ok}
use Rattle.std.specs.Fmt.{decimal}
use Rattle.mt_text_spec.specs.Texts.{Span}
use Rattle.mt_text_spec.specs.Queries.{Query}
use Rattle.mt_match_spec.specs.Kept.{Spans}
use Rattle.mt_session_spec.specs.Scenes.{Scene}
use Rattle.mt_session_spec.specs.Meaning.{Question}
use Rattle.mt_session_spec.specs.Asking.{Reads, query_checks, ExceptsQuery}

-- a number behind the sign that begins an answer
abbrev pub number_line : ℕ → List ℕ
number_line number = codes "= " ++ decimal number

-- the number of spans that the query has in the corpus
pub record Counts (scene : Scene) (cql : List ℕ) (lines : List (List ℕ)) : Type 0 where
  pub query : Query
  pub read : Reads scene cql (Ok query)
  pub spans : List Span
  pub are : Spans scene.images scene.registry scene.corpus query spans
  pub says : lines ≡ number_line (length spans) ∷ []

-- `count`: the text is a query, its patterns are such, it has not too many rows, and the reply is the number of its spans
abbrev pub counting : Scene → List ℕ → Question
counting scene cql = record { checks = query_checks scene cql; Answers = Counts scene cql; Excepts = ExceptsQuery scene cql }
