-- Laws of the rows of a corpus that is made longer by the live texts of a segment: the rows so far stay, and behind them come those of the segment.
use Rattle.std.specs.Prelude.{ℕ, ◌+◌, ◌<◌, ◌≤◌, nat_eq, List, ◌++◌, length, map}
use Rattle.std.specs.List.{All, position_or_len}
use Rattle.mt_text_spec.specs.Registries.{Registry}
use Rattle.mt_text_spec.specs.Texts.{Text, Row, ValidText}
use Rattle.mt_text_spec.specs.Queries.{Expr, Query}
use Rattle.mt_query_spec.specs.Valid.{ValidExpr}
use Rattle.mt_eval_spec.specs.Fits.{Fits}
use Rattle.mt_match_spec.specs.Values.{Images}
use Rattle.mt_match_spec.specs.Rows.{Rows}
use Rattle.mt_match_spec.specs.Kept.{Kept, HasTooMany, Over}
use Rattle.mt_segment_spec.specs.Tables.{Tables, AreTablesOf, AreTablesUnder}
use Rattle.mt_corpus_spec.specs.Groups.{Group, all_texts, live_texts}
use Rattle.mt_corpus_spec.specs.Segments.{live_numbers}
use Rattle.mt_eval_spec.specs.RowsIn.{RowsIn, KeptIn, heads, expr_at}
use Rattle.mt_eval_laws.specs.Laws.{Tell}
use Rattle.mt_corpus_laws.specs.Laws.{row_to}

-- A row of a segment as a row of the corpus: its text is numbered among the live ones, behind so many texts of earlier segments.
abbrev pub placed : (before : ℕ) (live : List ℕ) → Row → Row
placed before live row = row_to (before + position_or_len (nat_eq row.span.text) live) row

-- the rows of an expression, once the live texts of a segment stand behind the texts so far
abbrev pub RowsAreJoined : Type 0
RowsAreJoined = (images : Images) (registry : Registry) (first : List Text) (group : Group) (tables : Tables) (expr : Expr) (rows more : List Row) →
    ValidExpr registry expr → Tell images registry (all_texts group) tables → Rows images registry first expr rows → RowsIn tables (live_numbers 0 group) expr more →
    Rows images registry (first ++ live_texts group) expr (rows ++ map (placed (length first) (live_numbers 0 group)) more)

-- and those that a query keeps
abbrev pub KeptAreJoined : Type 0
KeptAreJoined = (images : Images) (registry : Registry) (first : List Text) (group : Group) (tables : Tables) (query : Query) (rows more : List Row) →
    Fits registry query → Tell images registry (all_texts group) tables → Kept images registry first query rows → KeptIn tables (live_numbers 0 group) query more →
    Kept images registry (first ++ live_texts group) query (rows ++ map (placed (length first) (live_numbers 0 group)) more)

-- more texts take no row away
abbrev pub RowsGoOn : Type 0
RowsGoOn = (images : Images) (registry : Registry) (first more : List Text) (expr : Expr) (rows all : List Row) →
    Rows images registry first expr rows → Rows images registry (first ++ more) expr all → length rows ≤ length all

-- some expression of these has too many rows
pub record SomeHasTooMany (images : Images) (registry : Registry) (corpus : List Text) (exprs : List Expr) : Type 0 where
  pub number : ℕ
  pub within : number < length exprs
  pub has : HasTooMany images registry corpus (expr_at exprs number)

-- a query has too many rows where its head or some operand has
pub record IsOverBySome (images : Images) (registry : Registry) (corpus : List Text) (query : Query) : Type 0 where
  pub on : Over images registry corpus query → SomeHasTooMany images registry corpus (heads query)
  pub back : SomeHasTooMany images registry corpus (heads query) → Over images registry corpus query

-- a query has too many rows exactly where its head or one of its operands has
abbrev pub OverIsSome : Type 0
OverIsSome = (images : Images) (registry : Registry) (corpus : List Text) (query : Query) → IsOverBySome images registry corpus query

-- tables of valid texts, made by these images, tell of them where they are the tables of some valid corpus
abbrev pub GroupsAreTold : Type 0
GroupsAreTold = (images : Images) (registry : Registry) (group : Group) (tables : Tables) →
    All (ValidText registry) (all_texts group) → AreTablesOf images registry (all_texts group) tables → AreTablesUnder registry tables → Tell images registry (all_texts group) tables
