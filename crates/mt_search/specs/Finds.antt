-- What is found of a query in the first texts of a corpus.
use Rattle.std.specs.Prelude.{ℕ, ◌≡◌, ◌+◌, ◌<◌, List, length, slice_index_or}
use Rattle.std.specs.List.{All}
use Rattle.std.specs.List.Sorted.{IsStrictlySortedBy}
use Rattle.mt_text_spec.specs.Registries.{Registry}
use Rattle.mt_text_spec.specs.Texts.{Text, Row}
use Rattle.mt_text_spec.specs.Queries.{Expr, Query}
use Rattle.mt_text_spec.specs.Orders.{row_cmp}
use Rattle.mt_eval_spec.specs.Fits.{Fits}
use Rattle.mt_match_spec.specs.Values.{Images}
use Rattle.mt_match_spec.specs.Rows.{Rows}
use Rattle.mt_match_spec.specs.Kept.{Kept, operand_rows_limit}
use Rattle.mt_segment_spec.specs.Tables.{Tables}
use Rattle.mt_eval_spec.specs.RowsIn.{expr_at, heads}
use Rattle.mt_eval_laws.specs.Laws.{Tell}
use Rattle.mt_corpus_spec.specs.Groups.{Group, all_texts}
use Rattle.mt_corpus_spec.specs.Segments.{live_numbers}

-- the rows ascend, and stand in texts below this number
pub record AreInOrder (rows : List Row) (texts : ℕ) : Type 0 where
  pub ascending : IsStrictlySortedBy row_cmp rows
  pub within : All (λ row. row.span.text < texts) rows

-- what is left of the most rows that an expression may have, once it has had those in some texts
pub record LeavesOfLimit (images : Images) (registry : Registry) (corpus : List Text) (expr : Expr) (left : ℕ) : Type 0 where
  pub rows : List Row
  pub are : Rows images registry corpus expr rows
  pub split : operand_rows_limit ≡ length rows + left

-- In some texts: the rows that the query keeps, what is left for its head and for each operand, and how many texts there are.
pub record Finds (images : Images) (registry : Registry) (corpus : List Text) (query : Query) (rows : List Row) (rooms : List ℕ) (texts : ℕ) : Type 0 where
  pub kept : Kept images registry corpus query rows
  pub leaves : (number : ℕ) → number < length (heads query) → LeavesOfLimit images registry corpus (expr_at (heads query) number) (slice_index_or rooms number 0)
  pub count : texts ≡ length corpus

-- The query fits the registry, and a segment is that of a group, whose live texts have these numbers.
pub record IsNext (images : Images) (registry : Registry) (query : Query) (group : Group) (tables : Tables) (live : List ℕ) : Type 0 where
  pub fits : Fits registry query
  pub tell : Tell images registry (all_texts group) tables
  pub numbers : live ≡ live_numbers 0 group
