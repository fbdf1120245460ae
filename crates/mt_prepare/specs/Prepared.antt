-- When a query is ready for a segment.
use Rattle.std.specs.Prelude.{ℕ, ◌≡◌, List, ◌++◌, Option}
use Rattle.std.specs.List.{All, AllZip}
use Rattle.mt_text_spec.specs.Texts.{Span}
use Rattle.mt_text_spec.specs.Queries as q
use Rattle.mt_query_spec.specs.Contents.{token_tests, tags}
use Rattle.mt_query_spec.specs.Contents as contents
use Rattle.mt_segment_spec.specs.Tables.{Tables}
use Rattle.mt_eval_spec.specs.RowsIn.{heads}
use Rattle.mt_automaton.specs.Parts.{Tag}
use Rattle.mt_prepare.specs.Resolved.{AreSpansOf, Resolves}
use Rattle.mt_prepare.specs.TestRows.{HasAttrs}
use Rattle.mt_prepare.specs.declared.resolved.Resolved.{Resolved}
use Rattle.mt_prepare.specs.declared.resolved.Resolved.TheVariants.{One}
use Rattle.mt_prepare.specs.declared.prepared.PreparedExpr.{PreparedExpr}
use Rattle.mt_prepare.specs.declared.prepared.Prepared.{Prepared}

-- the instances that a tag of an expression speaks of
abbrev pub instances : contents.Tag → Tag
instances tag = record { kind = tag.kind; test = tag.test }

-- the spans of a tag in a segment
abbrev pub TagSpans : Tables → contents.Tag → List Span → Type 0
TagSpans tables tag spans = AreSpansOf tables (instances tag) spans

-- a literal is resolved to the number of one value, or to none
abbrev pub IsByNumber : q.Test → Resolved → Type 0
IsByNumber q.Any test = Unit {0}
IsByNumber (q.Pattern attr text negated) test = Unit {0}
IsByNumber (q.Literal attr text negated) test = (id : Option ℕ) × (test ≡ One attr id negated)
IsByNumber (q.Not inner) test = Unit {0}
IsByNumber (q.Both left right) test = Unit {0}
IsByNumber (q.Either left right) test = Unit {0}

-- each test of tokens of the expression is resolved, and each tag has its spans
pub record IsReady (tables : Tables) (expr : q.Expr) (ready : PreparedExpr) : Type 0 where
  pub tests_are : AllZip (Resolves tables) (token_tests expr) ready.tests
  pub numbers : AllZip IsByNumber (token_tests expr) ready.tests
  pub attrs : All (HasAttrs tables) ready.tests
  pub tags_are : AllZip (TagSpans tables) (tags expr) ready.tags

-- the head of the query and its operands are ready, in this order
abbrev pub IsPrepared : Tables → q.Query → Prepared → Type 0
IsPrepared tables query prepared = AllZip (IsReady tables) (heads query) prepared.exprs

-- tests of tokens are resolved, and tags have their spans
pub record HasReady (tables : Tables) (tests : List q.Test) (known : List contents.Tag) (ready : PreparedExpr) : Type 0 where
  pub tests_are : AllZip (Resolves tables) tests ready.tests
  pub numbers : AllZip IsByNumber tests ready.tests
  pub attrs : All (HasAttrs tables) ready.tests
  pub tags_are : AllZip (TagSpans tables) known ready.tags

-- these were added to whatever was ready
abbrev pub AddsReady : Tables → List q.Test → List contents.Tag → (old new : PreparedExpr) → Type 0
AddsReady tables tests known old new = (before : List q.Test) (earlier : List contents.Tag) → HasReady tables before earlier old → HasReady tables (before ++ tests) (earlier ++ known) new

-- these expressions were made ready behind whatever were ready
abbrev pub AddsExprs : Tables → List q.Expr → (old new : List PreparedExpr) → Type 0
AddsExprs tables exprs old new = (before : List q.Expr) → AllZip (IsReady tables) before old → AllZip (IsReady tables) (before ++ exprs) new
