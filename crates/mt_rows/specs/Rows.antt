-- Rows whose spans and labels are kept apart.
use Rattle.std.specs.Prelude.{ℕ, List, [], ◌∷◌}
use Rattle.std.specs.List.{Contains}
use Rattle.mt_text_spec.specs.Texts.{Span, Row}
use Rattle.mt_match_spec.specs.Labels.{no_labels}

-- each span with the labels at its place; no label is set where the labels have ended
abbrev pub joined : List Span → List (List ℕ) → List Row
joined [] labels = []
joined (span ∷ spans) [] = record { span = span; labels = no_labels } ∷ joined spans []
joined (span ∷ spans) (set ∷ labels) = record { span = span; labels = set } ∷ joined spans labels

-- the span of one of the rows
pub record IsSpanIn (rows : List Row) (span : Span) : Type 0 where
  pub labels : List ℕ
  pub contains : Contains rows (record { span = span; labels = labels })
