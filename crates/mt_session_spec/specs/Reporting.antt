-- `freq` and `colloc`: what stands near the spans of a query, and how often.
use Rattle.std.specs.Prelude.{ℕ, ℤ, ◌≡◌, List, ◌∷◌, slice_get, Some, Ok}
use Rattle.std.specs.List.{Contains}
use Rattle.mt_text_spec.specs.Registries.{attr_names}
use Rattle.mt_text_spec.specs.Texts.{Span}
use Rattle.mt_text_spec.specs.Queries.{Query}
use Rattle.mt_match_spec.specs.Kept.{Spans}
use Rattle.mt_report_spec.specs.Counts.{FrequencyText, CollocationText}
use Rattle.mt_session_spec.specs.Scenes.{Scene}
use Rattle.mt_session_spec.specs.Gains.{Gained}
use Rattle.mt_session_spec.specs.Refusals.{UnknownName}
use Rattle.mt_session_spec.specs.Checks.{Check, When}
use Rattle.mt_session_spec.specs.Meaning.{Question}
use Rattle.mt_session_spec.specs.Asking.{Reads, query_checks, ExceptsQuery}

-- ## The attribute

-- an attribute of this name is declared
abbrev pub IsDeclared : Scene → (attr : List ℕ) → Type 0
IsDeclared scene attr = Contains (attr_names scene.registry.attrs) attr

-- the checks of a report: the attribute is declared, and then those of the query
abbrev pub report_checks : Scene → (attr cql : List ℕ) → List Check
report_checks scene attr cql = When (¬ IsDeclared scene attr) (UnknownName attr) ∷ query_checks scene cql

-- What may be answered in place of a report is what may be of its query, where the attribute is declared.
pub record ExceptsReport (scene : Scene) (attr cql : List ℕ) (gained : Gained) (line : List ℕ) : Type 0 where
  pub declared : IsDeclared scene attr
  pub excepts : ExceptsQuery scene cql gained line

-- ## The reports

-- the spans of the query in the corpus, and the number of the attribute, from which the lines are made
pub record Reports (scene : Scene) (attr cql : List ℕ) (Says : (spans : List Span) (number : ℕ) → Type 0) : Type 0 where
  pub query : Query
  pub read : Reads scene cql (Ok query)
  pub spans : List Span
  pub are : Spans scene.images scene.registry scene.corpus query spans
  pub number : ℕ
  pub named : slice_get (attr_names scene.registry.attrs) number ≡ Some attr
  pub says : Says spans number

-- `freq`: the values of the attribute so far from the begin of each span, the most frequent first
abbrev pub listing_frequencies : Scene → (attr : List ℕ) → (offset : ℤ) → (cql : List ℕ) → Question
listing_frequencies scene attr offset cql = record {
  checks = report_checks scene attr cql;
  Answers = λ lines. Reports scene attr cql (λ spans number. FrequencyText scene.images scene.registry scene.corpus spans number offset lines);
  Excepts = ExceptsReport scene attr cql;
}

-- `colloc`: the values of the attribute in the windows of as many spans as are asked for, in the order of their scores
abbrev pub listing_collocates : Scene → (attr : List ℕ) → (first last : ℤ) → (least : ℕ) → (cql : List ℕ) → Question
listing_collocates scene attr first last least cql = record {
  checks = report_checks scene attr cql;
  Answers = λ lines. Reports scene attr cql (λ spans number. CollocationText scene.images scene.registry scene.corpus spans number first last least lines);
  Excepts = ExceptsReport scene attr cql;
}
