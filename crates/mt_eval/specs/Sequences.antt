-- Sequences of tokens: one test of a token after another, and nothing else.
use Rattle.std.specs.Prelude.{ℕ, ◌≡◌, ◌+◌, ◌<◌, ◌≤◌, false, List, [], Option, None, Some, length, slice_index_or}
use Rattle.std.specs.List.{All, AllZip}
use Rattle.mt_text_spec.specs.Texts.{Row}
use Rattle.mt_text_spec.specs.Queries as q
use Rattle.mt_query_spec.specs.Contents.{token_tests}
use Rattle.mt_match_spec.specs.Labels.{no_labels, labelled, united}
use Rattle.mt_segment_spec.specs.Tables.{Tables, first_place, tables_at}
use Rattle.mt_eval_spec.specs.Told.{told}
use Rattle.mt_automaton.specs.RowsFrom.{IsRowOfText}
use Rattle.mt_prepare.specs.Resolved.{Resolves}
use Rattle.mt_prepare.specs.TestRows.{HasAttrs, SaysAt}
use Rattle.mt_prepare.specs.declared.resolved.Resolved.{Resolved}
use Rattle.mt_prepare.specs.declared.resolved.Resolved.TheVariants as resolved

-- one test of a token after another
abbrev pub IsSequence : q.Expr → Type 0
IsSequence (q.TokenTest label test) = Unit {0}
IsSequence (q.Begin kind test) = ⊥
IsSequence (q.End kind) = ⊥
IsSequence (q.Whole kind test) = ⊥
IsSequence (q.Seq left right) = IsSequence left × IsSequence right
IsSequence (q.Choice left right) = ⊥
IsSequence (q.Repeat inner least most) = ⊥

-- the labels that a sequence sets where it begins at a place
abbrev pub labels_from : q.Expr → (begin : ℕ) → List ℕ
labels_from (q.TokenTest label test) begin = labelled label begin
labels_from (q.Begin kind test) begin = no_labels
labels_from (q.End kind) begin = no_labels
labels_from (q.Whole kind test) begin = no_labels
labels_from (q.Seq left right) begin = united (labels_from left begin) (labels_from right (begin + length (token_tests left)))
labels_from (q.Choice left right) begin = no_labels
labels_from (q.Repeat inner least most) begin = no_labels

-- its row there
abbrev pub row_from : q.Expr → (text begin : ℕ) → Row
row_from expr text begin = record { span = record { text = text; begin = begin; end = begin + length (token_tests expr) }; labels = labels_from expr begin }

-- a test by its number
abbrev pub test_at : List Resolved → ℕ → Resolved
test_at tests n = slice_index_or tests n resolved.Any

-- the tests from one number on, before another, say so of the tokens of a segment, the first of all tests of the one at this place
abbrev pub SayFrom : Tables → List Resolved → (from to place : ℕ) → Type 0
SayFrom tables tests from to place = (n : ℕ) → from ≤ n → n < to → SaysAt tables (test_at tests n) (place + n)

-- the tests of a sequence, resolved
pub record AreTestsOf (tables : Tables) (expr : q.Expr) (tests : List Resolved) : Type 0 where
  pub is : IsSequence expr
  pub are : AllZip (Resolves tables) (token_tests expr) tests
  pub attrs : All (HasAttrs tables) tests

-- A sequence begins at a place of a text, of which the tokens stand in the segment from one place on and before another, so that its test with a number is met at
-- this place of the segment.
pub record BeginsAt (tables : Tables) (tests : List Resolved) (by first end place begin : ℕ) : Type 0 where
  pub at : first + begin + by ≡ place
  pub inside : first + begin + length tests ≤ end
  pub say : SayFrom tables tests 0 (length tests) (first + begin)

-- a row of the sequence in a text, in which the test with this number is met by the token at a place of the segment
pub record IsRowAt (tables : Tables) (expr : q.Expr) (text test place : ℕ) (row : Row) : Type 0 where
  pub is : IsRowOfText (told tables text) expr text row
  pub at : first_place tables text + row.span.begin + test ≡ place

-- or by one before the place
pub record IsRowBelow (tables : Tables) (expr : q.Expr) (text test place : ℕ) (row : Row) : Type 0 where
  pub is : IsRowOfText (told tables text) expr text row
  pub below : first_place tables text + row.span.begin + test < place

-- a test by the number of one value
abbrev pub IsOne : Resolved → Type 0
IsOne resolved.Any = ⊥
IsOne (resolved.One attr id negated) = negated ≡ false
IsOne (resolved.Some attr ids negated) = ⊥
IsOne (resolved.Not' p inner) = ⊥
IsOne (resolved.Both' p left r right) = ⊥
IsOne (resolved.Either' p left r right) = ⊥

-- the positions of a value; none, where it has no number
abbrev pub positions_by : List (List ℕ) → Option ℕ → List ℕ
positions_by postings None = []
positions_by postings (Some id) = slice_index_or postings id []

-- those of the value of such a test
abbrev pub positions_of : Tables → Resolved → List ℕ
positions_of tables resolved.Any = []
positions_of tables (resolved.One attr id negated) = positions_by (tables_at tables.attrs attr).postings id
positions_of tables (resolved.Some attr ids negated) = []
positions_of tables (resolved.Not' p inner) = []
positions_of tables (resolved.Both' p left r right) = []
positions_of tables (resolved.Either' p left r right) = []
