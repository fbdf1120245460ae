-- Laws of rows and spans.
use Rattle.std.specs.Prelude.{◌≡◌, List}
use Rattle.std.specs.List.{Contains}
use Rattle.std.specs.List.Sorted.{IsStrictlySortedBy}
use Rattle.mt_text_spec.specs.Registries.{Registry}
use Rattle.mt_text_spec.specs.Texts.{Text, Span, Row}
use Rattle.mt_text_spec.specs.Queries.{Expr, Query}
use Rattle.mt_match_spec.specs.Values.{Images}
use Rattle.mt_text_spec.specs.Orders.{row_cmp}
use Rattle.mt_match_spec.specs.Rows.{Rows}
use Rattle.mt_match_spec.specs.Kept.{Kept, Spans}

-- an expression has a list of its rows over any texts
abbrev pub HaveRows : Type 0
HaveRows = (images : Images) (registry : Registry) (corpus : List Text) (expr : Expr) → (rows : List Row) × Rows images registry corpus expr rows

-- a query has a list of the rows that it keeps, and of its spans
abbrev pub HaveKept : Type 0
HaveKept = (images : Images) (registry : Registry) (corpus : List Text) (query : Query) → (rows : List Row) × Kept images registry corpus query rows

-- a query has a list of its spans
abbrev pub HaveSpans : Type 0
HaveSpans = (images : Images) (registry : Registry) (corpus : List Text) (query : Query) → (spans : List Span) × Spans images registry corpus query spans

-- two ascending lists of the same rows are one
abbrev pub ListsAreOne : Type 0
ListsAreOne = (rows others : List Row) → IsStrictlySortedBy row_cmp rows → IsStrictlySortedBy row_cmp others →
    ((row : Row) → Contains rows row → Contains others row) → ((row : Row) → Contains others row → Contains rows row) → rows ≡ others

-- each of them is one only
abbrev pub RowsAreOne : Type 0
RowsAreOne = (images : Images) (registry : Registry) (corpus : List Text) (expr : Expr) (rows others : List Row) → Rows images registry corpus expr rows → Rows images registry corpus expr others → rows ≡ others

-- there is one list of the rows that a query keeps
abbrev pub KeptAreOne : Type 0
KeptAreOne = (images : Images) (registry : Registry) (corpus : List Text) (query : Query) (rows others : List Row) → Kept images registry corpus query rows → Kept images registry corpus query others → rows ≡ others

-- there is one list of the spans of a query
abbrev pub SpansAreOne : Type 0
SpansAreOne = (images : Images) (registry : Registry) (corpus : List Text) (query : Query) (spans others : List Span) → Spans images registry corpus query spans → Spans images registry corpus query others → spans ≡ others
