-- Of what a report is made, and its lines.
use Rattle.std.specs.Prelude.{ℕ, ℤ, ◌≡◌, ◌<◌, ◌≤◌, List, length, slice_get, Option, Some, Ok}
use Rattle.std.specs.List.{All, flat_map}
use Rattle.mt_text_spec.specs.Lines.{closed}
use Rattle.mt_text_spec.specs.Registries.{attr_names}
use Rattle.mt_text_spec.specs.Queries.{Query, Grammar}
use Rattle.mt_text_spec.specs.Texts.{Span}
use Rattle.mt_query_spec.specs.Verdicts.{Means}
use Rattle.mt_match_spec.specs.Values.{Images}
use Rattle.mt_match_spec.specs.Kept.{Spans, operand_rows_limit}
use Rattle.mt_corpus_spec.specs.Groups.{corpus_of}
use Rattle.mt_corpus_spec.specs.Images.{Corpus, AreImagesBy}
use Rattle.mt_report_spec.specs.Held.{LiesIn}
use Rattle.mt_report_spec.specs.Counts.{FrequencyText, CollocationText}
use Rattle.mt_session_spec.specs.Checks.{NoneStands}
use Rattle.mt_session_spec.specs.Reporting.{report_checks}
use Rattle.mt_answer.specs.Replies.{seen}

-- All checks of a report pass wherever this corpus is held; the attribute has this number, and these are the spans of the query, whatever the images that agree with
-- those taken.
pub record HasReport (corpus : Corpus) (attr cql : List ℕ) (number : ℕ) (spans : List Span) : Type 0 where
  pub named : slice_get (attr_names corpus.registry.attrs) number ≡ Some attr
  pub query : Query
  pub read : Means corpus.registry 0 cql (Ok query)
  pub passes : (images : Images) (grammar : Option Grammar) → AreImagesBy images corpus.taken → NoneStands (report_checks (seen images corpus grammar) attr cql)
  pub are : (images : Images) → AreImagesBy images corpus.taken → Spans images corpus.registry (corpus_of corpus.groups) query spans
  pub few : length spans ≤ operand_rows_limit

-- an attribute of the registry has this number, and these are spans of the corpus, not too many
pub record IsReportOver (corpus : Corpus) (number : ℕ) (spans : List Span) : Type 0 where
  pub declared : number < length corpus.registry.attrs
  pub lie : All (LiesIn (corpus_of corpus.groups)) spans
  pub few : length spans ≤ operand_rows_limit

-- ## The lines

-- the bytes are the frequency list of these spans
pub record IsFrequencyList (images : Images) (corpus : Corpus) (spans : List Span) (number : ℕ) (offset : ℤ) (bytes : List ℕ) : Type 0 where
  pub lines : List (List ℕ)
  pub are : FrequencyText images corpus.registry (corpus_of corpus.groups) spans number offset lines
  pub bytes_are : bytes ≡ flat_map closed lines

-- the bytes are the list of the collocates of these spans
pub record IsCollocationList (images : Images) (corpus : Corpus) (spans : List Span) (number : ℕ) (first last : ℤ) (least : ℕ) (bytes : List ℕ) : Type 0 where
  pub lines : List (List ℕ)
  pub are : CollocationText images corpus.registry (corpus_of corpus.groups) spans number first last least lines
  pub bytes_are : bytes ≡ flat_map closed lines
