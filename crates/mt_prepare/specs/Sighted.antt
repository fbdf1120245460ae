-- What an expression sees of a segment, and of the text that was entered last.
use Rattle.std.specs.Prelude.{ℕ, ◌≡◌, ◌<◌, List, [], length, map, slice_index_or}
use Rattle.std.specs.List.{All, AllZip}
use Rattle.mt_text_spec.specs.Queries as q
use Rattle.mt_query_spec.specs.Contents.{token_tests}
use Rattle.mt_query_spec.specs.Contents as contents
use Rattle.mt_segment_spec.specs.Tables.{Tables, token_count}
use Rattle.mt_eval_spec.specs.Told.{HoldsAt}
use Rattle.mt_prepare.specs.Asks.{HasKind}
use Rattle.mt_prepare.specs.TestRows.{IsRow, SaysAt}
use Rattle.mt_prepare.specs.TagRows.{AreRowsOf}
use Rattle.mt_prepare.specs.Viewed.{tag_at}
use Rattle.mt_prepare.specs.declared.resolved.Resolved.{Resolved}
use Rattle.mt_prepare.specs.declared.tag_rows.TagRows.{TagRows}
use Rattle.mt_prepare.specs.declared.prepared.PreparedExpr.{PreparedExpr}
use Rattle.mt_prepare.specs.declared.sighted.Sighted.{Sighted}

-- the kinds of the tags of an expression, in order
abbrev pub tag_kinds : q.Expr → List ℕ
tag_kinds expr = map (λ (tag : contents.Tag). tag.kind) (contents.tags expr)

-- a set has just the tokens of the segment of which a test holds
abbrev pub IsRowOfTest : Tables → q.Test → List ℕ → Type 0
IsRowOfTest tables test row = IsRow (token_count tables) (HoldsAt tables test) row

-- a set has just the tokens of which a resolved test says so
abbrev pub IsRowOfResolved : Tables → Resolved → List ℕ → Type 0
IsRowOfResolved tables test row = IsRow (token_count tables) (SaysAt tables test) row

-- There is a row for each test of tokens; for each tag there is its kind, which is one of the segment's, and room for what a text has of it.
pub record IsSighted (tables : Tables) (expr : q.Expr) (sighted : Sighted) : Type 0 where
  pub tests_are : AllZip (IsRowOfTest tables) (token_tests expr) sighted.rows.items
  pub kinds_are : sighted.kinds.items ≡ tag_kinds expr
  pub kinds_low : All (HasKind tables) sighted.kinds.items
  pub tags_count : length sighted.tags.items ≡ length sighted.kinds.items

-- and of each tag it is found where it lies in this text
pub record HasEntered (tables : Tables) (text : ℕ) (expr : q.Expr) (ready : PreparedExpr) (sighted : Sighted) : Type 0 where
  pub sees : IsSighted tables expr sighted
  pub rows_are : (n : ℕ) (d : TagRows) → n < length sighted.tags.items → AreRowsOf tables text (tag_at tables expr n) (slice_index_or ready.tags n []) (slice_index_or sighted.tags.items n d)
