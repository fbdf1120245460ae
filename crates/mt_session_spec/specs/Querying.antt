-- `query`: the concordance of a query.
use Rattle.std.specs.Prelude.{ℕ, ◌≡◌, List, Ok}
use Rattle.mt_text_spec.specs.Texts.{Span}
use Rattle.mt_text_spec.specs.Queries.{Query}
use Rattle.mt_match_spec.specs.Kept.{Spans}
use Rattle.mt_report_spec.specs.Lines.{query_lines}
use Rattle.mt_session_spec.specs.Scenes.{Scene}
use Rattle.mt_session_spec.specs.Meaning.{Question}
use Rattle.mt_session_spec.specs.Asking.{Reads, query_checks, ExceptsQuery}

-- the number of spans that the query has in the corpus, and a line for each, in order
pub record ListsSpans (scene : Scene) (cql : List ℕ) (lines : List (List ℕ)) : Type 0 where
  pub query : Query
  pub read : Reads scene cql (Ok query)
  pub spans : List Span
  pub are : Spans scene.images scene.registry scene.corpus query spans
  pub says : lines ≡ query_lines scene.images scene.registry scene.corpus spans

-- `query`: the text is a query, its patterns are such, it has not too many rows, and the reply is its concordance
abbrev pub querying : Scene → List ℕ → Question
querying scene cql = record { checks = query_checks scene cql; Answers = ListsSpans scene cql; Excepts = ExceptsQuery scene cql }
