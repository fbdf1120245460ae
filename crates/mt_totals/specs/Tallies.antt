-- How many rows the head of a query has in some texts of a segment, and how many spans those of them have that meet all conditions.
use Rattle.std.specs.Prelude.{ℕ, List}
use Rattle.std.specs.List.{All}
use Rattle.mt_text_spec.specs.Registries.{Registry}
use Rattle.mt_text_spec.specs.Queries.{Query}
use Rattle.mt_text_spec.specs.Texts.{Text, Span}
use Rattle.mt_match_spec.specs.Values.{Images}
use Rattle.mt_segment_spec.specs.Tables.{Tables}
use Rattle.mt_eval_spec.specs.RowsIn.{IsRowIn, MeetsIn}
use Rattle.mt_tally.specs.Counts.{HasCount}
use Rattle.mt_totals.specs.Totals.{HasRowTotal, HasSpanTotal}

-- the span of a row of the head that meets all conditions
pub record IsSpanMetIn (tables : Tables) (texts : List ℕ) (query : Query) (span : Span) : Type 0 where
  pub labels : List ℕ
  pub is_row : IsRowIn tables texts query.head (record { span = span; labels = labels })
  pub meets : All (MeetsIn tables (record { span = span; labels = labels })) query.conds

-- in some texts of a segment
pub record HasTallyIn (tables : Tables) (texts : List ℕ) (query : Query) (rows spans : ℕ) : Type 0 where
  pub rows_are : HasCount (IsRowIn tables texts query.head) rows
  pub spans_are : HasCount (IsSpanMetIn tables texts query) spans

-- in the texts of a corpus
pub record HasTally (images : Images) (registry : Registry) (corpus : List Text) (query : Query) (rows spans : ℕ) : Type 0 where
  pub rows_are : HasRowTotal images registry corpus query.head rows
  pub spans_are : HasSpanTotal images registry corpus query spans
