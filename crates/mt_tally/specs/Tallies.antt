-- The rows of a table of shapes and the spans of those that meet conditions, entry by entry.
use Rattle.std.specs.Prelude.{ℕ, ◌≡◌, ◌+◌, ◌<◌, ◌≤◌, List, length}
use Rattle.std.specs.List.{All}
use Rattle.mt_text_spec.specs.Texts.{Span, Row}
use Rattle.mt_text_spec.specs.Queries.{Cond}
use Rattle.mt_match_spec.specs.Labels.{IsSetTo}
use Rattle.mt_places.specs.Places.{In}
use Rattle.mt_segment_spec.specs.Tables.{Tables, token_count}
use Rattle.mt_eval_spec.specs.RowsIn.{MeetsIn}
use Rattle.mt_shapes.specs.declared.shape.Shape.{Shape}
use Rattle.mt_shapes.specs.declared.table.Entry.{Entry}
use Rattle.mt_shapes.specs.Shapes.{row_of}
use Rattle.mt_shapes.specs.Tables.{entry, IsRowOf}

-- the labels of a match of a shape stand at tokens of a segment, where it begins so many places behind one of them
abbrev pub HasLabelsFrom : Tables → (first begin : ℕ) → Shape → Type 0
HasLabelsFrom tables first begin shape = (label place : ℕ) → IsSetTo shape.labels label place → first + (begin + place) < token_count tables

-- the row of a match of an entry, with a token at least
pub record IsRowOfEntry (e : Entry) (text : ℕ) (row : Row) : Type 0 where
  pub some : 0 < e.shape.length
  pub begin : ℕ
  pub is_in : In e.begins begin
  pub row_is : row ≡ row_of e.shape text begin

-- of one of the first n entries
pub record IsRowUpto (entries : List Entry) (text n : ℕ) (row : Row) : Type 0 where
  pub at : ℕ
  pub below : at < n
  pub is : IsRowOfEntry (entry entries at) text row

-- the span of a row of an entry that meets all conditions
pub record IsSpanOfEntry (tables : Tables) (conds : List Cond) (e : Entry) (text : ℕ) (span : Span) : Type 0 where
  pub some : 0 < e.shape.length
  pub begin : ℕ
  pub is_in : In e.begins begin
  pub meets : All (MeetsIn tables (row_of e.shape text begin)) conds
  pub span_is : span ≡ record { text = text; begin = begin; end = begin + e.shape.length }

-- of one of the first n entries
pub record IsSpanUpto (tables : Tables) (conds : List Cond) (entries : List Entry) (text n : ℕ) (span : Span) : Type 0 where
  pub at : ℕ
  pub below : at < n
  pub is : IsSpanOfEntry tables conds (entry entries at) text span

-- it is none of those of the entries before
pub record IsFresh (tables : Tables) (conds : List Cond) (entries : List Entry) (text n : ℕ) (span : Span) : Type 0 where
  pub is : IsSpanOfEntry tables conds (entry entries n) text span
  pub new : ¬ IsSpanUpto tables conds entries text n span

-- so many tokens of a text from a place on
abbrev pub span_at : (text begin tokens : ℕ) → Span
span_at text begin tokens = record { text = text; begin = begin; end = begin + tokens }

-- A set has the begins of the spans of so many tokens that the first n entries have; these are no longer, and the next ones no shorter.
pub record HasSeen (tables : Tables) (conds : List Cond) (entries : List Entry) (text n tokens : ℕ) (seen : List ℕ) : Type 0 where
  pub sound : (begin : ℕ) → In seen begin → IsSpanUpto tables conds entries text n (span_at text begin tokens)
  pub complete : (begin : ℕ) → IsSpanUpto tables conds entries text n (span_at text begin tokens) → In seen begin
  pub past : (i : ℕ) → i < n → (entry entries i).shape.length ≤ tokens
  pub ahead : (i : ℕ) → n ≤ i → i < length entries → tokens ≤ (entry entries i).shape.length

-- the labels of the rows of a table stand at tokens of the text
abbrev pub HasLabelsInside : List Entry → (text tokens : ℕ) → Type 0
HasLabelsInside entries text tokens = (row : Row) (label place : ℕ) → IsRowOf entries text row → IsSetTo row.labels label place → place < tokens

-- the span of a row of a table that meets all conditions
pub record IsSpanMet (tables : Tables) (conds : List Cond) (entries : List Entry) (text : ℕ) (span : Span) : Type 0 where
  pub labels : List ℕ
  pub is_row : IsRowOf entries text (record { span = span; labels = labels })
  pub meets : All (MeetsIn tables (record { span = span; labels = labels })) conds
