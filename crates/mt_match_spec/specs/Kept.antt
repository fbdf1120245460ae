-- Which rows a query keeps, by its filters and conditions, and which spans it has.
use Rattle.std.specs.Prelude.{ℕ, ◌≡◌, ◌<◌, ◌≤◌, ◌⊎◌, List, length, slice_get, Some, not}
use Rattle.std.specs.List.{All}
use Rattle.mt_text_spec.specs.Registries.{Registry}
use Rattle.mt_text_spec.specs.Texts.{Text, Span, Row}
use Rattle.mt_text_spec.specs.Queries.{Expr, FilterKind, Within, NotWithin, Containing, NotContaining, Filters, NoMore, More, Cond, Query}
use Rattle.mt_text_spec.specs.Orders.{span_cmp, row_cmp}
use Rattle.mt_match_spec.specs.Values.{Images, value_at}
use Rattle.mt_match_spec.specs.Tests.{Unless}
use Rattle.mt_match_spec.specs.Labels.{IsSetTo}
use Rattle.mt_match_spec.specs.Rows.{IsRow, Rows, ListsAll}

-- ## Filters

-- a span lies in another of the same text
pub record LiesIn (span around : Span) : Type 0 where
  pub text : span.text ≡ around.text
  pub begin : around.begin ≤ span.begin
  pub end : span.end ≤ around.end

-- the span lies in some span of the operand, or some span of the operand lies in it
pub record IsWithin (IsOperands : Span → Type 0) (span : Span) : Type 0 where
  pub around : Span
  pub is_operands : IsOperands around
  pub lies : LiesIn span around

-- some span of the operand lies in the span
pub record IsContaining (IsOperands : Span → Type 0) (span : Span) : Type 0 where
  pub held : Span
  pub is_operands : IsOperands held
  pub lies : LiesIn held span

-- a filter lets a span pass
abbrev pub Passes : FilterKind → (IsOperands : Span → Type 0) → Span → Type 0
Passes Within IsOperands span = IsWithin IsOperands span
Passes NotWithin IsOperands span = ¬ IsWithin IsOperands span
Passes Containing IsOperands span = IsContaining IsOperands span
Passes NotContaining IsOperands span = ¬ IsContaining IsOperands span

-- the span of some row that is let pass
pub record IsSpanOf (Is : Row → Type 0) (Let : Span → Type 0) (span : Span) : Type 0 where
  pub labels : List ℕ
  pub is_row : Is (record { span = span; labels = labels })
  pub passes : Let span

-- All filters let a span pass. The spans of an operand are those that its own filters let pass.
abbrev pub PassesAll : Images → Registry → List Text → Filters → Span → Type 0
PassesAll images registry corpus NoMore span = Unit {0}
PassesAll images registry corpus (More kind head filters others) span =
    Passes kind (IsSpanOf (IsRow images registry corpus head) (PassesAll images registry corpus filters)) span × PassesAll images registry corpus others span

-- ## Conditions

-- both labels are set, and the values there are equal, or differ
pub record Meets (images : Images) (registry : Registry) (corpus : List Text) (row : Row) (cond : Cond) : Type 0 where
  pub text : Text
  pub there : slice_get corpus row.span.text ≡ Some text
  pub left : ℕ
  pub left_set : IsSetTo row.labels cond.left left
  pub right : ℕ
  pub right_set : IsSetTo row.labels cond.right right
  pub compare : Unless (not cond.equal) (value_at images registry text cond.left_attr left ≡ value_at images registry text cond.right_attr right)

-- ## Queries

-- a query keeps a row of its head that all filters let pass and that meets each condition
pub record Keeps (images : Images) (registry : Registry) (corpus : List Text) (query : Query) (row : Row) : Type 0 where
  pub is_row : IsRow images registry corpus query.head row
  pub passes : PassesAll images registry corpus query.filters row.span
  pub meets : All (Meets images registry corpus row) query.conds

-- all rows that it keeps, ascending
abbrev pub Kept : Images → Registry → List Text → Query → List Row → Type 0
Kept images registry corpus query = ListsAll row_cmp (Keeps images registry corpus query)

-- a span of a query: that of some row that it keeps
pub record IsSpan (images : Images) (registry : Registry) (corpus : List Text) (query : Query) (span : Span) : Type 0 where
  pub labels : List ℕ
  pub keeps : Keeps images registry corpus query (record { span = span; labels = labels })

-- all its spans, ascending
abbrev pub Spans : Images → Registry → List Text → Query → List Span → Type 0
Spans images registry corpus query = ListsAll span_cmp (IsSpan images registry corpus query)

-- ## Queries of too many rows

-- the most rows of a head or of an operand, before filters and conditions
abbrev pub operand_rows_limit : ℕ
operand_rows_limit = 4194304

-- an expression has more rows over all texts than it may
pub record HasTooMany (images : Images) (registry : Registry) (corpus : List Text) (expr : Expr) : Type 0 where
  pub rows : List Row
  pub are : Rows images registry corpus expr rows
  pub more : operand_rows_limit < length rows

-- some operand, at any depth, has too many rows
abbrev pub OverAny : Images → Registry → List Text → Filters → Type 0
OverAny images registry corpus NoMore = ⊥
OverAny images registry corpus (More kind head filters others) = HasTooMany images registry corpus head ⊎ OverAny images registry corpus filters ⊎ OverAny images registry corpus others

-- the head or some operand has too many rows over all texts
abbrev pub Over : Images → Registry → List Text → Query → Type 0
Over images registry corpus query = HasTooMany images registry corpus query.head ⊎ OverAny images registry corpus query.filters
