-- How many rows and spans there are in some texts.
use Rattle.std.specs.Prelude.{ℕ, ◌≡◌, List, [], length}
use Rattle.mt_text_spec.specs.Registries.{Registry}
use Rattle.mt_text_spec.specs.Orders.{span_cmp}
use Rattle.mt_text_spec.specs.Queries.{Test, Expr, TokenTest, NoMore, Query}
use Rattle.mt_text_spec.specs.Texts.{Text, Row, Span}
use Rattle.mt_match_spec.specs.Values.{Images}
use Rattle.mt_match_spec.specs.Rows.{ListsAll, Rows}
use Rattle.mt_match_spec.specs.Kept.{Spans}
use Rattle.mt_rows.specs.Rows.{IsSpanIn}

-- rows have so many different spans
pub record HasSpans (rows : List Row) (count : ℕ) : Type 0 where
  pub spans : List Span
  pub all : ListsAll span_cmp (IsSpanIn rows) spans
  pub counted : count ≡ length spans

-- a query has so many spans in some texts
pub record HasSpanTotal (images : Images) (registry : Registry) (corpus : List Text) (query : Query) (total : ℕ) : Type 0 where
  pub spans : List Span
  pub are : Spans images registry corpus query spans
  pub counted : total ≡ length spans

-- an expression has so many rows in some texts
pub record HasRowTotal (images : Images) (registry : Registry) (corpus : List Text) (expr : Expr) (total : ℕ) : Type 0 where
  pub rows : List Row
  pub are : Rows images registry corpus expr rows
  pub counted : total ≡ length rows

-- a query is one test of a token, with no filter and no condition
pub record IsTokenAlone (query : Query) : Type 0 where
  pub label : ℕ
  pub test : Test
  pub head : query.head ≡ TokenTest label test
  pub filters : query.filters ≡ NoMore
  pub conds : query.conds ≡ []
