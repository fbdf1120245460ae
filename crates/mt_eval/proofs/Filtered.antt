-- The rows that filters let pass.
use Rattle.std.proofs.Common.{◌≡◌, ℕ, true, List, [], ◌∷◌, length, Result, Ok, Err, OnOk, eqb-true, arith}
use Rattle.std.specs.Prelude.{nat_eq}
use Rattle.std.specs.List.{Contains}
use Rattle.std.specs.List.Sorted.{IsStrictlySortedBy}
use Rattle.mt_text_spec.specs.Texts.{Row, Span}
use Rattle.mt_text_spec.specs.Queries.{Expr, FilterKind, Filters, NoMore, More}
use Rattle.mt_text_spec.specs.Orders.{row_cmp, span_cmp}
use Rattle.mt_match_spec.specs.Rows.{ListsAll}
use Rattle.mt_match_spec.specs.Kept.{Passes, IsSpanOf}
use Rattle.mt_segment_spec.specs.Tables.{Tables}
use Rattle.mt_eval_spec.specs.RowsIn.{IsRowIn, PassesAllIn, RowsIn}
use Rattle.mt_rows.specs.Rows.{IsSpanIn}
use Rattle.mt_rows.specs.Laws.{to_member, passes_alike, spans_let, still_lists}
use Rattle.mt_rows.proofs.SpansOf.{spans_listed}
use Rattle.mt_eval.specs.Spans.{AreSpansOfRows}

-- what follows from what is so where a result is Ok
pub on_ok : {A E : Type 0} (result : Result A E) (P Q : Type 0) → (P → Q) → OnOk result P → OnOk result Q
on_ok (Ok value) P Q so h = so h
on_ok (Err error) P Q so h = h

pub no_filter : (tables : Tables) (texts : List ℕ) (rows : List Row) → IsStrictlySortedBy row_cmp rows → ListsAll row_cmp (λ row. Contains rows row × PassesAllIn tables texts NoMore row.span) rows
no_filter tables texts rows up = record { ascending = up; only = λ row c. (c, tt); each = λ row h. h.0 }

-- where there is no row, whatever lets rows pass leaves all of them
pub none_left : (P : Span → Type 0) (rows : List Row) → nat_eq (length rows) 0 ≡ true → ListsAll row_cmp (λ row. Contains rows row × P row.span) rows
unfolding IsStrictlySortedBy
none_left P [] e = record { ascending = tt; only = λ row c. absurd (to_member [] row c); each = λ row h. h.0 }
none_left P (r ∷ rows) e = let z = eqb-true (length (r ∷ rows)) 0 e in absurd (omega (arith, z))

-- a filter that asks for the spans of a list of all spans of rows asks for the spans of the rows
pub pass_alike : (kind : FilterKind) (own : List Row) (operand : List Span) (rows some : List Row) → ListsAll span_cmp (IsSpanIn own) operand →
    ListsAll row_cmp (λ row. Contains rows row × Passes kind (Contains operand) row.span) some → ListsAll row_cmp (λ row. Contains rows row × Passes kind (IsSpanIn own) row.span) some
pass_alike kind own operand rows some spans are = record {
  ascending = are.ascending;
  only = λ row c. let h = are.only row c in (h.0, passes_alike kind (Contains operand) (IsSpanIn own) spans.only spans.each row.span h.1);
  each = λ row h. are.each row (h.0, passes_alike kind (IsSpanIn own) (Contains operand) spans.each spans.only row.span h.1);
}

-- the rows that a filter and then the others let pass
pub all_pass : (tables : Tables) (texts : List ℕ) (kind : FilterKind) (head : Expr) (filters others : Filters) (found own rows some left : List Row) →
    RowsIn tables texts head found → ListsAll row_cmp (λ row. Contains found row × PassesAllIn tables texts filters row.span) own →
    ListsAll row_cmp (λ row. Contains rows row × Passes kind (IsSpanIn own) row.span) some → ListsAll row_cmp (λ row. Contains some row × PassesAllIn tables texts others row.span) left →
    ListsAll row_cmp (λ row. Contains rows row × PassesAllIn tables texts (More kind head filters others) row.span) left
all_pass tables texts kind head filters others found own rows some left are own_are some_are left_are =
    let listed = spans_listed own own_are.ascending in
    let spans : ListsAll span_cmp (IsSpanOf (IsRowIn tables texts head) (PassesAllIn tables texts filters)) _ =
    spans_let (IsRowIn tables texts head) (PassesAllIn tables texts filters) own _ (still_lists row_cmp (IsRowIn tables texts head) (λ (row : Row). PassesAllIn tables texts filters row.span) found own are own_are) listed in
    let told : (span : Span) → IsSpanIn own span → IsSpanOf (IsRowIn tables texts head) (PassesAllIn tables texts filters) span = λ span h. spans.only span (listed.each span h) in
    let held : (span : Span) → IsSpanOf (IsRowIn tables texts head) (PassesAllIn tables texts filters) span → IsSpanIn own span = λ span h. listed.only span (spans.each span h) in
    let to : (span : Span) → Passes kind (IsSpanIn own) span → Passes kind (IsSpanOf (IsRowIn tables texts head) (PassesAllIn tables texts filters)) span = passes_alike kind (IsSpanIn own) _ told held in
    let from : (span : Span) → Passes kind (IsSpanOf (IsRowIn tables texts head) (PassesAllIn tables texts filters)) span → Passes kind (IsSpanIn own) span = passes_alike kind _ (IsSpanIn own) held told in
    record {
      ascending = left_are.ascending;
      only = λ row c. let a = left_are.only row c in let b = some_are.only row a.0 in (b.0, (to row.span b.1, a.1));
      each = λ row h. left_are.each row (some_are.each row (h.0, from row.span h.1.0), h.1.1);
    }

-- the same where the spans of the operand are lent, on which no filter stands
pub lent_pass : (tables : Tables) (texts : List ℕ) (kind : FilterKind) (head : Expr) (others : Filters) (spans : List Span) (rows some left : List Row) → AreSpansOfRows tables texts head spans →
    ListsAll row_cmp (λ row. Contains rows row × Passes kind (Contains spans) row.span) some → ListsAll row_cmp (λ row. Contains some row × PassesAllIn tables texts others row.span) left →
    ListsAll row_cmp (λ row. Contains rows row × PassesAllIn tables texts (More kind head NoMore others) row.span) left
lent_pass tables texts kind head others spans rows some left lent some_are left_are =
    all_pass tables texts kind head NoMore others lent.rows lent.rows rows some left lent.are (no_filter tables texts lent.rows lent.are.ascending) (pass_alike kind lent.rows spans rows some lent.spans_are some_are) left_are
