-- Laws of what the tables of a segment tell a query.
use Rattle.std.specs.Prelude.{ℕ, ◌≡◌, ◌<◌, ◌≤◌, List, [], length, slice_index_or}
use Rattle.std.specs.List.{Contains}
use Rattle.std.specs.List.Sorted.{IsStrictlySortedBy, IsStrictlyIncreasing}
use Rattle.mt_text_spec.specs.Registries.{Registry, ValidRegistry}
use Rattle.mt_text_spec.specs.Texts.{Text, Row, ValidCorpus}
use Rattle.mt_text_spec.specs.Queries.{Expr, Query}
use Rattle.mt_query_spec.specs.Valid.{ValidExpr}
use Rattle.mt_text_spec.specs.Orders.{row_cmp}
use Rattle.mt_match_spec.specs.Rows.{IsRow}
use Rattle.mt_match_spec.specs.Kept.{Keeps}
use Rattle.mt_segment_spec.specs.Tables.{Tables, AreTables, AreTablesOf, AreTablesUnder, number_at, tables_at, token_count}
use Rattle.mt_match_spec.specs.Labels.{IsSetTo}
use Rattle.mt_eval_spec.specs.Told.{told_tokens}
use Rattle.mt_eval_spec.specs.Fits.{Fits}
use Rattle.mt_eval_spec.specs.RowsIn.{IsRowIn, RowsIn, KeepsIn}

-- the tables are those of these texts, which are valid
pub record Tell (images : List ℕ → List ℕ → List ℕ) (registry : Registry) (corpus : List Text) (tables : Tables) : Type 0 where
  pub registry_valid : ValidRegistry registry
  pub valid : ValidCorpus registry corpus
  pub are : AreTablesOf images registry corpus tables

-- what one says of a row the other says too
pub record SaySame (First Second : Row → Type 0) : Type 0 where
  pub on : (row : Row) → First row → Second row
  pub back : (row : Row) → Second row → First row

-- the rows that tables tell are those of the listed texts
abbrev pub RowsAreTold : Type 0
RowsAreTold = (images : List ℕ → List ℕ → List ℕ) (registry : Registry) (corpus : List Text) (tables : Tables) (texts : List ℕ) (expr : Expr) →
    Tell images registry corpus tables → ValidExpr registry expr →
    SaySame (IsRowIn tables texts expr) (λ row. Contains texts row.span.text × IsRow images registry corpus expr row)

-- and so are those that a query keeps
abbrev pub KeptAreTold : Type 0
KeptAreTold = (images : List ℕ → List ℕ → List ℕ) (registry : Registry) (corpus : List Text) (tables : Tables) (texts : List ℕ) (query : Query) →
    Tell images registry corpus tables → Fits registry query →
    SaySame (KeepsIn tables texts query) (λ row. Contains texts row.span.text × Keeps images registry corpus query row)

-- an expression has a list of its rows in any texts of a segment
abbrev pub HaveRowsIn : Type 0
HaveRowsIn = (registry : Registry) (tables : Tables) (texts : List ℕ) (expr : Expr) → AreTablesUnder registry tables → ValidExpr registry expr → (rows : List Row) × RowsIn tables texts expr rows

-- the labels of a row stand at tokens of its text
abbrev pub LabelsAreInside : Type 0
LabelsAreInside = (tables : Tables) (texts : List ℕ) (expr : Expr) (row : Row) (label place : ℕ) → IsRowIn tables texts expr row → IsSetTo row.labels label place → place < told_tokens tables row.span.text

-- ascending rows that stand in an ascending list are no more than its rows
abbrev pub NoMoreThanAll : Type 0
NoMoreThanAll = (rows all : List Row) → IsStrictlySortedBy row_cmp rows → IsStrictlySortedBy row_cmp all → ((row : Row) → Contains rows row → Contains all row) → length rows ≤ length all

-- a list has just the places of a segment where the value of an attribute has this number, ascending
pub record ListsPlaces (tables : Tables) (attr number : ℕ) (places : List ℕ) : Type 0 where
  pub ascending : IsStrictlyIncreasing places
  pub on : (place : ℕ) → Contains places place → (place < token_count tables) × (number_at tables attr place ≡ number)
  pub back : (place : ℕ) → place < token_count tables → number_at tables attr place ≡ number → Contains places place

-- the posting list of a value does
abbrev pub PlacesAreListed : Type 0
PlacesAreListed = (tables : Tables) (attr number : ℕ) → AreTables tables → attr < length tables.attrs → number < length (tables_at tables.attrs attr).lexicon →
    ListsPlaces tables attr number (slice_index_or (tables_at tables.attrs attr).postings number [])
