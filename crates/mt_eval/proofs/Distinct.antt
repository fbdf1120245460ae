-- Where no two rows have the same span, their spans are ascending as they stand.
use Rattle.std.proofs.Common.{◌≡◌, ℕ, zero, suc, ◌+◌, ◌<◌, Bool, true, false, List, [], ◌∷◌, length, get_or, slice_get, refl, sym, ap, subst, ◌∙◌, inl, inr, arith, cond}
use Rattle.std.specs.Prelude.{IsSomeAnd}
use Rattle.std.proofs.lemmas.Bool.{cases_lt}
use Rattle.std.specs.List.{dedup, dedup_from}
use Rattle.std.specs.List.Sorted.{IsStrictlySortedBy}
use Rattle.std.specs.declared.cmp.Ordering.{Ordering}
use Rattle.std.specs.declared.cmp.Ordering.TheVariants.{Less, Equal, Greater}
use Rattle.std.specs.Ordering.{is_eq, eq_by_cmp, ordering_reverse}
use Rattle.mt_text_spec.specs.Texts.{Span, Row}
use Rattle.mt_text_spec.specs.Orders.{span_cmp, row_cmp, span_cmp_total}
use Rattle.mt_match_spec.specs.Rows.{ListsAll}
use Rattle.mt_rows.specs.Rows.{IsSpanIn}
use Rattle.mt_rows.specs.Laws.{Member, to_member, from_member}
use Rattle.mt_rows.proofs.SpansOf.{span_list, spans_listed}

abbrev pub same : Span → Span → Bool
same = eq_by_cmp span_cmp

-- at this place stands another span than behind it
abbrev pub DifferAt : List Span → ℕ → Type 0
DifferAt spans k = (d : Span) → same (get_or spans (suc k) d) (get_or spans k d) ≡ false

-- the span of a row is that of the list
span_here : (rows : List Row) (i : ℕ) (span d : Span) → IsSomeAnd (slice_get rows i) (λ row. span ≡ row.span) → get_or (span_list rows) i d ≡ span
span_here [] i span d e = absurd e
span_here (r ∷ rows) zero span d e = sym e
span_here (r ∷ rows) (suc i) span d e = span_here rows i span d e

-- these are the spans of a row and of the one before it
same_there : (rows : List Row) (before : ℕ) (span last d : Span) → IsSomeAnd (slice_get rows (suc before)) (λ row. span ≡ row.span) → IsSomeAnd (slice_get rows before) (λ row. last ≡ row.span) →
    same (get_or (span_list rows) (suc before) d) (get_or (span_list rows) before d) ≡ same span last
same_there rows before span last d e f = ap (λ s. same s (get_or (span_list rows) before d)) (span_here rows (suc before) span d e) ∙ ap (same span) (span_here rows before last d f)

-- the span of the next row is another
pub differ_on : (rows : List Row) (i before : ℕ) (span last : Span) → i ≡ suc before → IsSomeAnd (slice_get rows i) (λ row. span ≡ row.span) → IsSomeAnd (slice_get rows before) (λ row. last ≡ row.span) →
    same span last ≡ false → ((k : ℕ) → suc k < i → DifferAt (span_list rows) k) → (k : ℕ) → suc k < i + 1 → DifferAt (span_list rows) k
differ_on rows i before span last next e f other differ k low = elim (cases_lt (suc k) i) [
  | inl less ↦ differ k less
  | inr last_one ↦
      let here : k ≡ before = omega (arith, next, low, last_one) in
      λ d. subst (λ n. same (get_or (span_list rows) (suc n) d) (get_or (span_list rows) n d) ≡ false) (sym here)
      (same_there rows before span last d (subst (λ n. IsSomeAnd (slice_get rows n) (λ row. span ≡ row.span)) next e) f ∙ other)
]

-- ## Spans that differ from the ones before them

unrepeated : (first : Span) (spans : List Span) → ((k : ℕ) → suc k < length (first ∷ spans) → DifferAt (first ∷ spans) k) → dedup_from same first spans ≡ first ∷ spans
unrepeated first [] differ = refl
unrepeated first (span ∷ spans) differ =
    ap (λ b. cond b (dedup_from same first spans) (first ∷ dedup_from same span spans)) (differ 0 (omega arith) first)
    ∙ ap (λ (l : List Span). first ∷ l) (unrepeated span spans (λ k low. differ (suc k) (omega (arith, low))))

none_repeated : (spans : List Span) → ((k : ℕ) → suc k < length spans → DifferAt spans k) → dedup same spans ≡ spans
none_repeated [] differ = refl
none_repeated (span ∷ spans) differ = unrepeated span spans differ

ascending : (rows : List Row) → IsStrictlySortedBy row_cmp rows → ((k : ℕ) → suc k < length (span_list rows) → DifferAt (span_list rows) k) → IsStrictlySortedBy span_cmp (span_list rows)
ascending rows s differ = subst (IsStrictlySortedBy span_cmp) (none_repeated (span_list rows) differ) (spans_listed rows s).ascending

-- ## A span that stands behind the same one

untied : (o : Ordering) → o ≡ Less → is_eq (ordering_reverse o) ≡ false
untied Less e = refl
untied Equal e = cc
untied Greater e = cc

apart : (spans : List Span) → IsStrictlySortedBy span_cmp spans → (k : ℕ) → suc k < length spans → DifferAt spans k
unfolding IsStrictlySortedBy
apart [] s k l d = absurd (omega (arith, l))
apart (x ∷ []) s k l d = absurd (omega (arith, l))
apart (x ∷ y ∷ spans) s zero l d = ap is_eq (span_cmp_total.antisymm y x) ∙ untied (span_cmp x y) s.0.0
apart (x ∷ y ∷ spans) s (suc k) l d = apart (y ∷ spans) s.1 k (omega (arith, l)) d

span_count_is : (rows : List Row) → length (span_list rows) ≡ length rows
span_count_is [] = refl
span_count_is (r ∷ rows) = ap suc (span_count_is rows)

-- the span of the next row is the same
pub repeated : (rows : List Row) (i before : ℕ) (span last : Span) → i ≡ suc before → i < length rows → IsSomeAnd (slice_get rows i) (λ row. span ≡ row.span) → IsSomeAnd (slice_get rows before) (λ row. last ≡ row.span) →
    same span last ≡ true → ¬ IsStrictlySortedBy span_cmp (span_list rows)
repeated rows i before span last next l e f again s =
    let n = span_count_is rows in
    let differ : false ≡ true =
    sym (apart (span_list rows) s before (omega (arith, l, n, next)) last) ∙ same_there rows before span last last (subst (λ n. IsSomeAnd (slice_get rows n) (λ row. span ≡ row.span)) next e) f ∙ again in
    cc

-- no two have the same span
pub all_differ : (rows : List Row) (i : ℕ) → IsStrictlySortedBy row_cmp rows → ¬ (i < length rows) → ((k : ℕ) → suc k < i → DifferAt (span_list rows) k) → IsStrictlySortedBy span_cmp (span_list rows)
all_differ rows i s end differ =
    let n = span_count_is rows in
    ascending rows s (λ k low. differ k (omega (arith, n, low, end)))

-- ## All spans of rows

pub in_spans : (rows : List Row) (row : Row) → Member row rows → Member row.span (span_list rows)
in_spans [] row m = m
in_spans (r ∷ rows) row (inl e) = inl (ap (λ (x : Row). x.span) e)
in_spans (r ∷ rows) row (inr m) = inr (in_spans rows row m)

record RowWith (rows : List Row) (span : Span) : Type 0 where
  labels : List ℕ
  member : Member (record { span = span; labels = labels }) rows

row_with : (rows : List Row) (span : Span) → Member span (span_list rows) → RowWith rows span
row_with [] span m = absurd m
row_with (r ∷ rows) span (inl e) = record { labels = r.labels; member = inl (λ i. record { span = e i; labels = r.labels }) }
row_with (r ∷ rows) span (inr m) = let h = row_with rows span m in record { labels = h.labels; member = inr h.member }

pub listed : (rows : List Row) → IsStrictlySortedBy span_cmp (span_list rows) → ListsAll span_cmp (IsSpanIn rows) (span_list rows)
listed rows s = record {
  ascending = s;
  only = λ span c.
      let h = row_with rows span (to_member (span_list rows) span c) in
      record { labels = h.labels; contains = from_member rows (record { span = span; labels = h.labels }) h.member };
  each = λ span h.
      from_member (span_list rows) span (in_spans rows (record { span = span; labels = h.labels }) (to_member rows (record { span = span; labels = h.labels }) h.contains));
}
