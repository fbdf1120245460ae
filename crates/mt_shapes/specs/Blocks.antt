-- Rows without labels, of which the spans are put into a block.
use Rattle.std.specs.Prelude.{ℕ, ◌≡◌, ◌<◌, List, length, map}
use Rattle.mt_text_spec.specs.Texts.{Span, Row}
use Rattle.mt_match_spec.specs.Labels.{no_labels}
use Rattle.mt_shapes.specs.declared.table.Entry.{Entry}
use Rattle.mt_shapes.specs.Tables.{entry}

-- the row of a span, with no label
abbrev pub bare : Span → Row
bare span = record { span = span; labels = no_labels }

-- the rows of spans
abbrev pub bare_rows : List Span → List Row
bare_rows spans = map (λ span. record { span = span; labels = no_labels }) spans

-- no shape of a table has a label
abbrev pub AreUnlabelled : List Entry → Type 0
AreUnlabelled entries = (i : ℕ) → i < length entries → (entry entries i).shape.labels ≡ no_labels
