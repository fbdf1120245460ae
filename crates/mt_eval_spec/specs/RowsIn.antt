-- Which rows a query has and keeps in some texts of a segment, by their numbers in the segment.
use Rattle.std.specs.Prelude.{ℕ, ◌≡◌, ◌<◌, ◌≤◌, ◌+◌, List, [], ◌∷◌, ◌++◌, length, slice_index_or, not}
use Rattle.std.specs.List.{All, Contains}
use Rattle.mt_text_spec.specs.Texts.{Row, Span}
use Rattle.mt_text_spec.specs.Queries.{Expr, End, Seq, Filters, NoMore, More, Cond, Query}
use Rattle.mt_text_spec.specs.Orders.{row_cmp}
use Rattle.mt_segment_spec.specs.Tables.{Tables, first_place}
use Rattle.mt_match_spec.specs.Tests.{Unless}
use Rattle.mt_match_spec.specs.Labels.{IsSetTo}
use Rattle.mt_match_spec.specs.Matches.{Matches}
use Rattle.mt_match_spec.specs.Rows.{ListsAll}
use Rattle.mt_match_spec.specs.Kept.{Passes, IsSpanOf}
use Rattle.mt_eval_spec.specs.Told.{told, told_tokens, told_value}

-- ## Rows

-- a row of an expression: a span of one listed text, of a token at least, that the expression matches with the row's labels
pub record IsRowIn (tables : Tables) (texts : List ℕ) (expr : Expr) (row : Row) : Type 0 where
  pub listed : Contains texts row.span.text
  pub some : row.span.begin < row.span.end
  pub inside : row.span.end ≤ told_tokens tables row.span.text
  pub matches : Matches (told tables row.span.text) expr row.span.begin row.span.end row.labels

-- all rows of an expression, ascending
abbrev pub RowsIn : Tables → (texts : List ℕ) → Expr → List Row → Type 0
RowsIn tables texts expr = ListsAll row_cmp (IsRowIn tables texts expr)

-- ## Filters and conditions

-- All filters let a span pass. The spans of an operand are those of its rows that its own filters let pass.
abbrev pub PassesAllIn : Tables → (texts : List ℕ) → Filters → Span → Type 0
PassesAllIn tables texts NoMore span = Unit {0}
PassesAllIn tables texts (More kind head filters others) span =
    Passes kind (IsSpanOf (IsRowIn tables texts head) (PassesAllIn tables texts filters)) span × PassesAllIn tables texts others span

-- both labels are set, and the values there are equal, or differ
pub record MeetsIn (tables : Tables) (row : Row) (cond : Cond) : Type 0 where
  pub left : ℕ
  pub left_set : IsSetTo row.labels cond.left left
  pub right : ℕ
  pub right_set : IsSetTo row.labels cond.right right
  pub compare : Unless (not cond.equal)
      (told_value tables cond.left_attr (first_place tables row.span.text + left) ≡ told_value tables cond.right_attr (first_place tables row.span.text + right))

-- a query keeps a row of its head that all filters let pass and that meets each condition
pub record KeepsIn (tables : Tables) (texts : List ℕ) (query : Query) (row : Row) : Type 0 where
  pub is_row : IsRowIn tables texts query.head row
  pub passes : PassesAllIn tables texts query.filters row.span
  pub meets : All (MeetsIn tables row) query.conds

-- all rows that it keeps, ascending
abbrev pub KeptIn : Tables → (texts : List ℕ) → Query → List Row → Type 0
KeptIn tables texts query = ListsAll row_cmp (KeepsIn tables texts query)

-- ## Rooms

-- the operands of filters, at any depth, from left to right
abbrev pub operands : Filters → List Expr
operands NoMore = []
operands (More kind head filters others) = head ∷ operands filters ++ operands others

-- the head of a query and its operands
abbrev pub heads : Query → List Expr
heads query = query.head ∷ operands query.filters

-- an expression has more rows in the texts than there is room for
pub record PassesRoom (tables : Tables) (texts : List ℕ) (expr : Expr) (room : ℕ) : Type 0 where
  pub rows : List Row
  pub are : RowsIn tables texts expr rows
  pub more : room < length rows

-- what is left of a room when an expression has had its rows
pub record LeavesRoom (tables : Tables) (texts : List ℕ) (expr : Expr) (room left : ℕ) : Type 0 where
  pub rows : List Row
  pub are : RowsIn tables texts expr rows
  pub within : room ≡ length rows + left

-- an expression, by its number
abbrev pub expr_at : List Expr → ℕ → Expr
expr_at exprs i = slice_index_or exprs i (Seq (End 0) (End 0))

-- Expressions have their rooms from number `first` on. Some expression passes its room.
pub record SomePasses (tables : Tables) (texts : List ℕ) (exprs : List Expr) (first : ℕ) (rooms : List ℕ) : Type 0 where
  pub number : ℕ
  pub within : number < length exprs
  pub passes : PassesRoom tables texts (expr_at exprs number) (slice_index_or rooms (first + number) 0)

-- each expression leaves what is left of its room, and other rooms are as they were
pub record EachLeaves (tables : Tables) (texts : List ℕ) (exprs : List Expr) (first : ℕ) (rooms left : List ℕ) : Type 0 where
  pub count : length left ≡ length rooms
  pub each : (number : ℕ) → number < length exprs → LeavesRoom tables texts (expr_at exprs number) (slice_index_or rooms (first + number) 0) (slice_index_or left (first + number) 0)
  pub before : (room : ℕ) → room < first → slice_index_or left room 0 ≡ slice_index_or rooms room 0
  pub behind : (room : ℕ) → first + length exprs ≤ room → slice_index_or left room 0 ≡ slice_index_or rooms room 0
