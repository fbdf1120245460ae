-- The rows of a tag alone: each of its spans that has a token and lies in a listed text, with no label.
use Rattle.std.specs.Prelude.{ℕ, ◌≡◌, ◌<◌, List, length}
use Rattle.std.specs.List.{Contains}
use Rattle.mt_text_spec.specs.Texts.{Row, Span}
use Rattle.mt_text_spec.specs.Orders.{span_cmp}
use Rattle.mt_text_spec.specs.Queries as q
use Rattle.mt_segment_spec.specs.Tables.{Tables}
use Rattle.mt_match_spec.specs.Rows.{ListsAll}
use Rattle.mt_prepare.specs.Resolved.{AreSpansOf}
use Rattle.mt_rows.specs.Rows.{IsSpanIn}
use Rattle.mt_eval_spec.specs.RowsIn.{RowsIn}

-- a whole tag, and nothing else
abbrev pub IsTag : q.Expr → Type 0
IsTag (q.TokenTest label test) = ⊥
IsTag (q.Begin kind test) = ⊥
IsTag (q.End kind) = ⊥
IsTag (q.Whole kind test) = Unit {0}
IsTag (q.Seq left right) = ⊥
IsTag (q.Choice left right) = ⊥
IsTag (q.Repeat inner least most) = ⊥

-- an expression is a tag that has these spans in the segment
pub record AreSpansOfTag (tables : Tables) (expr : q.Expr) (spans : List Span) : Type 0 where
  pub kind : ℕ
  pub test : q.Test
  pub is : expr ≡ q.Whole kind test
  pub are : AreSpansOf tables (record { kind = kind; test = test }) spans

-- a span has a token, and its text is listed
abbrev pub HasRow : (texts : List ℕ) → Span → Type 0
HasRow texts span = (span.begin < span.end) × Contains texts span.text

-- the rows of an expression in texts have just these spans, ascending, and there is one row of each
pub record AreSpansOfRows (tables : Tables) (texts : List ℕ) (expr : q.Expr) (spans : List Span) : Type 0 where
  pub rows : List Row
  pub are : RowsIn tables texts expr rows
  pub spans_are : ListsAll span_cmp (IsSpanIn rows) spans
  pub count : length rows ≡ length spans
