-- The distinct spans of rows in ascending order.
use Rattle.std.proofs.Common.{◌≡◌, ℕ, zero, suc, ◌<◌, ◌≤◌, false, true, inl, inr, List, [], ◌∷◌, ◌⊎◌, length, map, get_or, slice_get, Some, refl, sym, ap, subst, ◌∙◌, add-one, arith}
use Rattle.std.specs.List.{AllByRecursion, dedup}
use Rattle.std.specs.List.Sorted.{IsStrictlySortedBy, IsSorted}
use Rattle.std.specs.declared.cmp.Ordering.{Ordering}
use Rattle.std.specs.declared.cmp.Ordering.TheVariants.{Less, Equal, Greater}
use Rattle.std.specs.Ordering.{is_lt, is_eq, eq_by_cmp, nat_cmp, ordering_then, ordering_reverse}
use Rattle.std.specs.Cmp.{eq_by_cmp_equiv}
use Rattle.std.specs.Cmp.Lexicographic.{slice_cmp}
use Rattle.std.proofs.lemmas.Cmp.{by_ranked, ranked}
use Rattle.std.proofs.lemmas.Option.{same_Some}
use Rattle.std.proofs.lemmas.List.Kept.{Contains-dedup, Contains-from_dedup, IsStrictlySortedBy-dedup}
use Rattle.mt_text_spec.specs.Texts.{Span, Row}
use Rattle.mt_text_spec.specs.Orders.{span_cmp, row_cmp, span_cmp_total, same_span}
use Rattle.mt_match_spec.specs.Rows.{ListsAll}
use Rattle.mt_rows.specs.Rows.{IsSpanIn}
use Rattle.mt_rows.specs.Filters.{BeginsBy, InOrder}
use Rattle.mt_rows.specs.Laws.{Member, to_member, from_member}

abbrev pub span_list : List Row → List Span
span_list rows = map (λ row. row.span) rows

-- ---- the order

not_behind : (o p : Ordering) → ordering_then o p ≡ Less → is_lt (ordering_reverse o) ≡ false
not_behind Less p e = refl
not_behind Equal p e = refl
not_behind Greater p e = cc

span_not_before : (r s : Row) → row_cmp r s ≡ Less → is_lt (span_cmp s.span r.span) ≡ false
span_not_before r s e = ap is_lt (span_cmp_total.antisymm s.span r.span) ∙ not_behind (span_cmp r.span s.span) _ e

adjacent : (rows : List Row) → IsStrictlySortedBy row_cmp rows → (k : ℕ) (d : Span) → suc k < length (span_list rows) → is_lt (span_cmp (get_or (span_list rows) (suc k) d) (get_or (span_list rows) k d)) ≡ false
unfolding IsStrictlySortedBy
adjacent [] s k d l = absurd (omega (arith, l))
adjacent (r ∷ []) s k d l = absurd (omega (arith, l))
adjacent (r ∷ t ∷ rows) s zero d l = span_not_before r t s.0.0
adjacent (r ∷ t ∷ rows) s (suc k) d l = adjacent (t ∷ rows) s.1 k d (omega (arith, l))

pub spans_sorted : (rows : List Row) → IsStrictlySortedBy row_cmp rows → IsSorted span_cmp (span_list rows)
spans_sorted rows s = λ k d low high.
    subst (λ n. is_lt (span_cmp (get_or (span_list rows) n d) (get_or (span_list rows) k d)) ≡ false) (sym (add-one k)) (adjacent rows s k d (omega (arith, high)))

-- ---- who is in it

in_spans : (rows : List Row) (row : Row) → Member row rows → Member row.span (span_list rows)
in_spans [] row m = m
in_spans (r ∷ rows) row (inl e) = inl (ap (λ (x : Row). x.span) e)
in_spans (r ∷ rows) row (inr m) = inr (in_spans rows row m)

record RowWith (rows : List Row) (span : Span) : Type 0 where
  labels : List ℕ
  member : Member (record { span = span; labels = labels }) rows

row_with : (rows : List Row) (span : Span) → Member span (span_list rows) → RowWith rows span
row_with [] span m = absurd m
row_with (r ∷ rows) span (inl e) = record { labels = r.labels; member = inl (λ i. record { span = e i; labels = r.labels }) }
row_with (r ∷ rows) span (inr m) = let h = row_with rows span m in record { labels = h.labels; member = inr h.member }

tied : (o : Ordering) → is_eq o ≡ true → o ≡ Equal
tied Less e = cc
tied Equal e = refl
tied Greater e = cc

pub spans_listed : (rows : List Row) → IsStrictlySortedBy row_cmp rows → ListsAll span_cmp (IsSpanIn rows) (dedup (eq_by_cmp span_cmp) (span_list rows))
spans_listed rows s = record {
  ascending = IsStrictlySortedBy-dedup span_cmp_total (λ x y. refl) (span_list rows) (spans_sorted rows s);
  only = λ span c.
      let h = row_with rows span (to_member (span_list rows) span (Contains-from_dedup (eq_by_cmp span_cmp) (span_list rows) span c)) in
      record { labels = h.labels; contains = from_member rows (record { span = span; labels = h.labels }) h.member };
  each = λ span h.
      Contains-dedup (eq_by_cmp_equiv span_cmp_total) (λ x y e. same_span x y (tied (span_cmp x y) e)) (span_list rows) span
      (from_member (span_list rows) span (in_spans rows (record { span = span; labels = h.labels }) (to_member rows (record { span = span; labels = h.labels }) h.contains)));
}

-- ---- the order of begins

begins_within : (text_less : Type 0) (text_same : Type 0) (begin_up : Type 0) (o p q : Ordering) → ordering_then o (ordering_then p q) ≡ Less → (o ≡ Less → text_less) → (o ≡ Equal → text_same) → (p ≡ Less → begin_up) → (p ≡ Equal → begin_up) → text_less ⊎ (text_same × begin_up)
begins_within T S B Less p q e less same up level = inl (less refl)
begins_within T S B Equal Less q e less same up level = inr (same refl, up refl)
begins_within T S B Equal Equal q e less same up level = inr (same refl, level refl)
begins_within T S B Equal Greater q e less same up level = cc
begins_within T S B Greater p q e less same up level = cc

is_less : (m n : ℕ) → nat_cmp m n ≡ Less → m < n
is_less m n e = by_ranked (m < n) (m ≡ n) (n < m) (nat_cmp m n) (ranked m n (nat_cmp m n) refl) (λ o l. l) (λ o l. let again : Equal ≡ Less = sym o ∙ e in cc) (λ o l. let again : Greater ≡ Less = sym o ∙ e in cc)

is_same : (m n : ℕ) → nat_cmp m n ≡ Equal → m ≡ n
is_same m n e = by_ranked (m < n) (m ≡ n) (n < m) (nat_cmp m n) (ranked m n (nat_cmp m n) refl) (λ o l. let again : Less ≡ Equal = sym o ∙ e in cc) (λ o l. l) (λ o l. let again : Greater ≡ Equal = sym o ∙ e in cc)

begins_by : (s t : Span) (r : Ordering) → r ≡ span_cmp s t → r ≡ Less → BeginsBy s t
begins_by s t r is e =
    begins_within (s.text < t.text) (s.text ≡ t.text) (s.begin ≤ t.begin) (nat_cmp s.text t.text) (nat_cmp s.begin t.begin) (nat_cmp s.end t.end) (sym is ∙ e) (is_less s.text t.text) (is_same s.text t.text)
    (λ o. let l = is_less s.begin t.begin o in omega (arith, l)) (λ o. let l = is_same s.begin t.begin o in omega (arith, l))

span_of_less : (o p : Ordering) → ordering_then o p ≡ Less → (o ≡ Less) ⊎ (o ≡ Equal)
span_of_less Less p e = inl refl
span_of_less Equal p e = inr refl
span_of_less Greater p e = cc

row_begins_by : (r t : Row) → row_cmp r t ≡ Less → BeginsBy r.span t.span
row_begins_by r t e = elim (span_of_less (span_cmp r.span t.span) (slice_cmp nat_cmp r.labels t.labels) e) [
  | inl less ↦ begins_by r.span t.span (span_cmp r.span t.span) refl less
  | inr same ↦ let alike = same_span r.span t.span same in inr (ap (λ (x : Span). x.text) alike, let l : r.span.begin ≡ t.span.begin = ap (λ (x : Span). x.begin) alike in omega (arith, l))
]

all_after : {X : Type 0} (P : X → Type 0) (xs : List X) (k : ℕ) (x : X) → AllByRecursion P xs → slice_get xs k ≡ Some x → P x
all_after P [] k x all e = cc
all_after P (y ∷ ys) zero x all e = subst P (same_Some y x e) all.0
all_after P (y ∷ ys) (suc k) x all e = all_after P ys k x all.1 e

pub operand_in_order : (spans : List Span) → IsStrictlySortedBy span_cmp spans → InOrder spans
unfolding IsStrictlySortedBy
operand_in_order [] s i j a b l e f = cc
operand_in_order (x ∷ spans) s zero zero a b l e f = absurd (omega (arith, l))
operand_in_order (x ∷ spans) s zero (suc j) a b l e f =
    subst (λ (y : Span). BeginsBy y b) (same_Some x a e) (begins_by x b (span_cmp x b) refl (all_after (λ y. span_cmp x y ≡ Less) spans j b s.0 f))
operand_in_order (x ∷ spans) s (suc i) zero a b l e f = absurd (omega (arith, l))
operand_in_order (x ∷ spans) s (suc i) (suc j) a b l e f = operand_in_order spans s.1 i j a b (omega (arith, l)) e f

spans_begin : (r : Row) (rows : List Row) (k : ℕ) (b : Span) → AllByRecursion (λ t. row_cmp r t ≡ Less) rows → slice_get (span_list rows) k ≡ Some b → BeginsBy r.span b
spans_begin r [] k b all e = cc
spans_begin r (t ∷ rows) zero b all e = subst (λ (y : Span). BeginsBy r.span y) (same_Some t.span b e) (row_begins_by r t all.0)
spans_begin r (t ∷ rows) (suc k) b all e = spans_begin r rows k b all.1 e

pub rows_in_order : (rows : List Row) → IsStrictlySortedBy row_cmp rows → InOrder (span_list rows)
unfolding IsStrictlySortedBy
rows_in_order [] s i j a b l e f = cc
rows_in_order (r ∷ rows) s zero zero a b l e f = absurd (omega (arith, l))
rows_in_order (r ∷ rows) s zero (suc j) a b l e f = subst (λ (y : Span). BeginsBy y b) (same_Some r.span a e) (spans_begin r rows j b s.0 f)
rows_in_order (r ∷ rows) s (suc i) zero a b l e f = absurd (omega (arith, l))
rows_in_order (r ∷ rows) s (suc i) (suc j) a b l e f = rows_in_order rows s.1 i j a b (omega (arith, l)) e f
