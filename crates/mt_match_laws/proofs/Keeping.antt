-- What a query keeps, and its spans, have lists.
use Rattle.std.proofs.Common.{◌≡◌, ℕ, zero, suc, inl, inr, not, List, [], ◌∷◌, ◌++◌, slice_get, Option, None, Some, refl, sym, ◌∙◌, ap, subst}
use Rattle.std.specs.List.{Contains, AllByRecursion}
use Rattle.std.proofs.lemmas.Bool.{cases_eq}
use Rattle.std.proofs.lemmas.Option.{same_Some}
use Rattle.std.proofs.lemmas.List.Elements.{recursion_from_All, All-from_recursion}
use Rattle.mt_text_spec.specs.Registries.{Registry}
use Rattle.mt_text_spec.specs.Texts.{Text, Span, Row, unset}
use Rattle.mt_text_spec.specs.Queries.{FilterKind, Within, NotWithin, Containing, NotContaining, Filters, NoMore, More, Cond, Query}
use Rattle.mt_text_spec.specs.Orders.{row_cmp_total, same_row, row_cmp, span_cmp_total, same_span, span_cmp}
use Rattle.mt_match_spec.specs.Values.{Images, value_at}
use Rattle.mt_match_spec.specs.Tests.{Unless}
use Rattle.mt_match_spec.specs.Labels.{IsSetTo}
use Rattle.mt_match_spec.specs.Kept.{LiesIn, IsWithin, IsContaining, Passes, IsSpanOf, PassesAll, Meets, Keeps, IsSpan}
use Rattle.mt_match_laws.specs.Laws.{HaveKept, HaveSpans}
use Rattle.mt_match_laws.proofs.Members.{Member, to_member, from_member, in_front, in_back, in_either}
use Rattle.mt_match_laws.proofs.Deciding.{Decision, both, all_three, alike, contrary, unless, at_most, equal_values}
use Rattle.mt_match_laws.proofs.Listing.{kept, is_kept, keeps}
use Rattle.mt_match_laws.proofs.Listed.{same_numbers, rows_listed}
use Rattle.mt_match_laws.proofs.Sorting.{sorted, in_order}

-- ---- one of a list

record Among {X : Type 0} (P : X → Type 0) (xs : List X) : Type 0 where
  pub one : X
  pub member : Member one xs
  pub is_so : P one

found : {X : Type 0} {P : X → Type 0} → ((x : X) → Decision (P x)) → (xs : List X) → Decision (Among P xs)
found d [] = inr (λ a. absurd a.member)
found {P = P} d (x ∷ xs) = by (d x) (found d xs)
  where
    by : Decision (P x) → Decision (Among P xs) → Decision (Among P (x ∷ xs))
    by (inl p) more = inl (record { one = x; member = inl refl; is_so = p })
    by (inr n) (inl a) = inl (record { one = a.one; member = inr a.member; is_so = a.is_so })
    by (inr n) (inr m) = inr (λ a. elim a.member [ inl e ↦ n (subst P e a.is_so) | inr k ↦ m (record { one = a.one; member = k; is_so = a.is_so }) ])

-- ---- filters

lies_in : (span around : Span) → Decision (LiesIn span around)
lies_in span around =
    alike (λ h. record { text = h.0; begin = h.1; end = h.2 }) (λ l. (l.text, l.begin, l.end)) (all_three (same_numbers span.text around.text) (at_most around.begin span.begin) (at_most span.end around.end))

module _ {Is : Row → Type 0} {Let : Span → Type 0} (rows : List Row) (only : (r : Row) → Contains rows r → Is r) (each : (r : Row) → Is r → Contains rows r) (let_pass : (span : Span) → Decision (Let span)) where
  within : (span : Span) → Decision (IsWithin (IsSpanOf Is Let) span)
  within span =
      alike (λ a. record { around = a.one.span; is_operands = record { labels = a.one.labels; is_row = only a.one (from_member rows a.one a.member); passes = a.is_so.0 }; lies = a.is_so.1 })
      (λ w. record {
        one = record { span = w.around; labels = w.is_operands.labels };
        member = to_member rows _ (each (record { span = w.around; labels = w.is_operands.labels }) w.is_operands.is_row);
        is_so = (w.is_operands.passes, w.lies);
      }) (found (λ (r : Row). both (let_pass r.span) (lies_in span r.span)) rows)

  containing : (span : Span) → Decision (IsContaining (IsSpanOf Is Let) span)
  containing span =
      alike (λ a. record { held = a.one.span; is_operands = record { labels = a.one.labels; is_row = only a.one (from_member rows a.one a.member); passes = a.is_so.0 }; lies = a.is_so.1 })
      (λ w. record {
        one = record { span = w.held; labels = w.is_operands.labels };
        member = to_member rows _ (each (record { span = w.held; labels = w.is_operands.labels }) w.is_operands.is_row);
        is_so = (w.is_operands.passes, w.lies);
      }) (found (λ (r : Row). both (let_pass r.span) (lies_in r.span span)) rows)

  passes : (kind : FilterKind) (span : Span) → Decision (Passes kind (IsSpanOf Is Let) span)
  passes Within span = within span
  passes NotWithin span = contrary (within span)
  passes Containing span = containing span
  passes NotContaining span = contrary (containing span)

passes_all : (images : Images) (registry : Registry) (corpus : List Text) (filters : Filters) (span : Span) → Decision (PassesAll images registry corpus filters span)
passes_all images registry corpus NoMore span = inl tt
passes_all images registry corpus (More kind head filters others) span =
    let rows = rows_listed images registry corpus head in
    both (passes rows.0 rows.1.only rows.1.each (passes_all images registry corpus filters) kind span) (passes_all images registry corpus others span)

-- ---- conditions

-- a label that is set, with its place
record IsSet (labels : List ℕ) (label : ℕ) : Type 0 where
  pub place : ℕ
  pub set : IsSetTo labels label place

is_set : (labels : List ℕ) (label : ℕ) → Decision (IsSet labels label)
is_set labels zero = inr (λ s. absurd s.set)
is_set labels (suc before) = by (slice_get labels before) refl
  where
    by : (o : Option ℕ) → slice_get labels before ≡ o → Decision (IsSet labels (suc before))
    by None e = inr (λ s. let there = s.set.0 in let f : ⊥ = cc in f)
    by (Some place) e = elim (cases_eq place unset) [
      | inl same ↦ inr (λ s. s.set.1 (sym (same_Some place s.place (sym e ∙ s.set.0)) ∙ same))
      | inr other ↦ inl (record { place = place; set = (e, other) })
    ]

one_place : (labels : List ℕ) (label place other : ℕ) → IsSetTo labels label place → IsSetTo labels label other → place ≡ other
one_place labels zero place other s t = absurd s
one_place labels (suc before) place other s t = same_Some place other (sym s.0 ∙ t.0)

record HasText (corpus : List Text) (number : ℕ) : Type 0 where
  pub text : Text
  pub there : slice_get corpus number ≡ Some text

has_text : (corpus : List Text) (number : ℕ) → Decision (HasText corpus number)
has_text corpus number = by (slice_get corpus number) refl
  where
    by : (o : Option Text) → slice_get corpus number ≡ o → Decision (HasText corpus number)
    by None e = inr (λ h. let there = h.there in let f : ⊥ = cc in f)
    by (Some text) e = inl (record { text = text; there = e })

meets : (images : Images) (registry : Registry) (corpus : List Text) (row : Row) (cond : Cond) → Decision (Meets images registry corpus row cond)
meets images registry corpus row cond = by (has_text corpus row.span.text) (is_set row.labels cond.left) (is_set row.labels cond.right)
  where
    by : Decision (HasText corpus row.span.text) → Decision (IsSet row.labels cond.left) → Decision (IsSet row.labels cond.right) → Decision (Meets images registry corpus row cond)
    by (inr n) l r = inr (λ m. n (record { text = m.text; there = m.there }))
    by (inl t) (inr n) r = inr (λ m. n (record { place = m.left; set = m.left_set }))
    by (inl t) (inl l) (inr n) = inr (λ m. n (record { place = m.right; set = m.right_set }))
    by (inl t) (inl l) (inl r) =
        alike (λ h. record { text = t.text; there = t.there; left = l.place; left_set = l.set; right = r.place; right_set = r.set; compare = h })
        (λ m.
        let text : m.text ≡ t.text = same_Some m.text t.text (sym m.there ∙ t.there) in
        let left : m.left ≡ l.place = one_place row.labels cond.left m.left l.place m.left_set l.set in
        let right : m.right ≡ r.place = one_place row.labels cond.right m.right r.place m.right_set r.set in
        subst (λ (x : Text). Unless (not cond.equal) (value_at images registry x cond.left_attr l.place ≡ value_at images registry x cond.right_attr r.place)) text
        (subst (λ (x : ℕ). Unless (not cond.equal) (value_at images registry m.text cond.left_attr x ≡ value_at images registry m.text cond.right_attr r.place)) left
        (subst (λ (x : ℕ). Unless (not cond.equal) (value_at images registry m.text cond.left_attr m.left ≡ value_at images registry m.text cond.right_attr x)) right m.compare)))
        (unless (not cond.equal) (equal_values (value_at images registry t.text cond.left_attr l.place) (value_at images registry t.text cond.right_attr r.place)))

all_of : {X : Type 0} {P : X → Type 0} → ((x : X) → Decision (P x)) → (xs : List X) → Decision (AllByRecursion P xs)
all_of d [] = inl tt
all_of d (x ∷ xs) = both (d x) (all_of d xs)

-- ---- what is kept of a list

abbrev kept_of : {X : Type 0} {P : X → Type 0} → ((x : X) → Decision (P x)) → List X → List X
kept_of d [] = []
kept_of d (x ∷ xs) = kept (d x) x ++ kept_of d xs

record IsKeptOf {X : Type 0} (P : X → Type 0) (xs : List X) (z : X) : Type 0 where
  pub member : Member z xs
  pub is_so : P z

is_kept_of : {X : Type 0} {P : X → Type 0} (d : (x : X) → Decision (P x)) (xs : List X) (z : X) → Member z (kept_of d xs) → IsKeptOf P xs z
is_kept_of d [] z m = absurd m
is_kept_of {P = P} d (x ∷ xs) z m =
    elim (in_either (kept (d x) x) (kept_of d xs) z m) [
      | inl n ↦ let h = is_kept (d x) x z n in record { member = inl h.1; is_so = subst P (sym h.1) h.0 }
      | inr n ↦ let more = is_kept_of d xs z n in record { member = inr more.member; is_so = more.is_so }
    ]

in_kept_of : {X : Type 0} {P : X → Type 0} (d : (x : X) → Decision (P x)) (xs : List X) (z : X) → Member z xs → P z → Member z (kept_of d xs)
in_kept_of d [] z m p = absurd m
in_kept_of {X = X} {P = P} d (x ∷ xs) z (inl e) p = in_front (kept (d x) x) (kept_of d xs) z (subst (λ (y : X). Member y (kept (d x) x)) (sym e) (keeps (d x) x (subst P e p)))
in_kept_of d (x ∷ xs) z (inr m) p = in_back (kept (d x) x) (kept_of d xs) z (in_kept_of d xs z m p)

-- ---- rows that a query keeps

module _ (images : Images) (registry : Registry) (corpus : List Text) (query : Query) where
  -- what is asked of a row of the head
  abbrev Asked : Row → Type 0
  Asked row = PassesAll images registry corpus query.filters row.span × AllByRecursion (Meets images registry corpus row) query.conds

  asked : (row : Row) → Decision (Asked row)
  asked row = both (passes_all images registry corpus query.filters row.span) (all_of (meets images registry corpus row) query.conds)

  abbrev head_rows : List Row
  head_rows = (rows_listed images registry corpus query.head).0

  abbrev kept_rows : List Row
  kept_rows = kept_of asked head_rows

  only_kept : (row : Row) → Member row kept_rows → Keeps images registry corpus query row
  only_kept row m =
      let h = is_kept_of asked head_rows row m in
      record {
        is_row = (rows_listed images registry corpus query.head).1.only row (from_member head_rows row h.member);
        passes = h.is_so.0;
        meets = All-from_recursion (Meets images registry corpus row) query.conds h.is_so.1;
      }

  each_kept : (row : Row) → Keeps images registry corpus query row → Member row kept_rows
  each_kept row k =
      in_kept_of asked head_rows row (to_member head_rows row ((rows_listed images registry corpus query.head).1.each row k.is_row)) (k.passes, recursion_from_All (Meets images registry corpus row) query.conds k.meets)

  -- their spans
  abbrev spans_of : List Row → List Span
  spans_of [] = []
  spans_of (row ∷ rows) = row.span ∷ spans_of rows

  span_member : (rows : List Row) (row : Row) → Member row rows → Member row.span (spans_of rows)
  span_member [] row m = absurd m
  span_member (a ∷ rows) row (inl e) = inl (ap (λ (r : Row). r.span) e)
  span_member (a ∷ rows) row (inr m) = inr (span_member rows row m)

  is_span : (rows : List Row) → ((row : Row) → Member row rows → Keeps images registry corpus query row) → (span : Span) → Member span (spans_of rows) → IsSpan images registry corpus query span
  is_span [] h span m = absurd m
  is_span (row ∷ rows) h span (inl e) = subst (IsSpan images registry corpus query) (sym e) (record { labels = row.labels; keeps = h row (inl refl) })
  is_span (row ∷ rows) h span (inr m) = is_span rows (λ r n. h r (inr n)) span m

pub kept_listed : HaveKept
kept_listed images registry corpus query = (
  sorted row_cmp (kept_rows images registry corpus query),
  in_order row_cmp_total same_row (Keeps images registry corpus query) (kept_rows images registry corpus query) (only_kept images registry corpus query) (each_kept images registry corpus query),
)

pub spans_listed : HaveSpans
spans_listed images registry corpus query =
    let rows = kept_rows images registry corpus query in (
      sorted span_cmp (spans_of images registry corpus query rows),
      in_order span_cmp_total same_span (IsSpan images registry corpus query) (spans_of images registry corpus query rows) (is_span images registry corpus query rows (only_kept images registry corpus query))
          (λ span s. span_member images registry corpus query rows (record { span = span; labels = s.labels }) (each_kept images registry corpus query _ s.keeps)),
    )
