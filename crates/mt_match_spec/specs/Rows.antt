-- The rows of an expression over texts.
use Rattle.std.specs.Prelude.{◌≡◌, ◌<◌, ◌≤◌, List, length, slice_get, Some}
use Rattle.std.specs.List.{Contains}
use Rattle.std.specs.List.Sorted.{IsStrictlySortedBy}
use Rattle.std.specs.declared.cmp.Ordering.{Ordering}
use Rattle.mt_text_spec.specs.Registries.{Registry}
use Rattle.mt_text_spec.specs.Texts.{Text, Row}
use Rattle.mt_text_spec.specs.Queries.{Expr}
use Rattle.mt_text_spec.specs.Orders.{row_cmp}
use Rattle.mt_match_spec.specs.Values.{Images}
use Rattle.mt_match_spec.specs.Matches.{Matches, sight}

-- a list of everything that P holds of and of nothing else, ascending, each once
pub record ListsAll {X : Type 0} (order : X → X → Ordering) (P : X → Type 0) (all : List X) : Type 0 where
  pub ascending : IsStrictlySortedBy order all
  pub only : (x : X) → Contains all x → P x
  pub each : (x : X) → P x → Contains all x

-- A row of an expression: a span of one text, of a token at least, that the expression matches with the row's labels.
pub record IsRow (images : Images) (registry : Registry) (corpus : List Text) (expr : Expr) (row : Row) : Type 0 where
  pub text : Text
  pub there : slice_get corpus row.span.text ≡ Some text
  pub some : row.span.begin < row.span.end
  pub inside : row.span.end ≤ length text.tokens
  pub matches : Matches (sight images registry text) expr row.span.begin row.span.end row.labels

-- all rows of an expression, ascending by text, begin, end and labels, without repeats
abbrev pub Rows : Images → Registry → List Text → Expr → List Row → Type 0
Rows images registry corpus expr = ListsAll row_cmp (IsRow images registry corpus expr)
