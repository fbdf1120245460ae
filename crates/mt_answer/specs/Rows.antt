-- The rows and the spans of a query of which all checks pass.
use Rattle.std.specs.Prelude.{ℕ, ◌≡◌, List, Option, Ok}
use Rattle.std.specs.List.{flat_map}
use Rattle.mt_text_spec.specs.Lines.{closed}
use Rattle.mt_text_spec.specs.Orders.{span_cmp}
use Rattle.mt_text_spec.specs.Queries.{Query, Grammar}
use Rattle.mt_text_spec.specs.Texts.{Row, Span}
use Rattle.mt_query_spec.specs.Verdicts.{Means}
use Rattle.mt_match_spec.specs.Values.{Images}
use Rattle.mt_match_spec.specs.Rows.{ListsAll}
use Rattle.mt_match_spec.specs.Kept.{Kept}
use Rattle.mt_rows.specs.Rows.{IsSpanIn}
use Rattle.mt_corpus_spec.specs.Groups.{corpus_of}
use Rattle.mt_corpus_spec.specs.Images.{Corpus, AreImagesBy}
use Rattle.mt_totals.specs.Totals.{HasSpanTotal}
use Rattle.mt_report_spec.specs.Lines.{query_lines}
use Rattle.mt_session_spec.specs.Checks.{NoneStands}
use Rattle.mt_session_spec.specs.Asking.{query_checks}
use Rattle.mt_answer.specs.Replies.{seen}

-- The text is a query of which all checks pass wherever this corpus is held, and these are the rows that it keeps, whatever the images that agree with those taken.
pub record HasRows (corpus : Corpus) (cql : List ℕ) (rows : List Row) : Type 0 where
  pub query : Query
  pub read : Means corpus.registry 0 cql (Ok query)
  pub passes : (images : Images) (grammar : Option Grammar) → AreImagesBy images corpus.taken → NoneStands (query_checks (seen images corpus grammar) cql)
  pub kept : (images : Images) → AreImagesBy images corpus.taken → Kept images corpus.registry (corpus_of corpus.groups) query rows

-- The same, where the query has so many spans.
pub record HasTotal (corpus : Corpus) (cql : List ℕ) (total : ℕ) : Type 0 where
  pub query : Query
  pub read : Means corpus.registry 0 cql (Ok query)
  pub passes : (images : Images) (grammar : Option Grammar) → AreImagesBy images corpus.taken → NoneStands (query_checks (seen images corpus grammar) cql)
  pub counted : (images : Images) → AreImagesBy images corpus.taken → HasSpanTotal images corpus.registry (corpus_of corpus.groups) query total

-- some mappers make the images that were taken
pub record HasImages (corpus : Corpus) : Type 0 where
  pub images : Images
  pub agree : AreImagesBy images corpus.taken

-- the bytes are the concordance of the spans of these rows
pub record IsConcordance (images : Images) (corpus : Corpus) (rows : List Row) (bytes : List ℕ) : Type 0 where
  pub spans : List Span
  pub all : ListsAll span_cmp (IsSpanIn rows) spans
  pub lines : bytes ≡ flat_map closed (query_lines images corpus.registry (corpus_of corpus.groups) spans)
