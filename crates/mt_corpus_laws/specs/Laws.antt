-- Laws of the rows of queries over texts: they depend on the text that they are in, and on no other one.
use Rattle.std.specs.Prelude.{ℕ, ◌≡◌, List, slice_get}
use Rattle.mt_text_spec.specs.Registries.{Registry}
use Rattle.mt_text_spec.specs.Texts.{Text, Span, Row}
use Rattle.mt_text_spec.specs.Queries.{Expr, Query}
use Rattle.mt_match_spec.specs.Values.{Images}
use Rattle.mt_match_spec.specs.Rows.{IsRow}
use Rattle.mt_match_spec.specs.Kept.{Keeps}

-- a span, a row, in the text with another number
abbrev pub span_to : (text : ℕ) → Span → Span
span_to text span = record { text = text; begin = span.begin; end = span.end }

-- a row in the text with another number
abbrev pub row_to : (text : ℕ) → Row → Row
row_to text row = record { span = span_to text row.span; labels = row.labels }

-- a row of an expression is one in the same text of other texts
abbrev pub RowsAreLocal : Type 0
RowsAreLocal = (images : Images) (registry : Registry) (first second : List Text) (expr : Expr) (row : Row) (text : ℕ) →
    slice_get first row.span.text ≡ slice_get second text → IsRow images registry first expr row → IsRow images registry second expr (row_to text row)

-- and so is one that a query keeps
abbrev pub KeptAreLocal : Type 0
KeptAreLocal = (images : Images) (registry : Registry) (first second : List Text) (query : Query) (row : Row) (text : ℕ) →
    slice_get first row.span.text ≡ slice_get second text → Keeps images registry first query row → Keeps images registry second query (row_to text row)
