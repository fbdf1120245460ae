-- How many different spans rows have, by one pass over them in their order.
use Rattle.std.proofs.Common.{◌≡◌, ℕ, zero, suc, ◌+◌, ◌≤◌, true, false, Bool, List, [], ◌∷◌, length, drop, slice_get, refl, sym, ap, ◌∙◌, add-one, arith, cond, eqb-true}
use Rattle.std.specs.Prelude.{IsSomeAnd, nat_eq, not}
use Rattle.std.specs.List.{dedup, dedup_from}
use Rattle.std.specs.List.Sorted.{IsStrictlySortedBy}
use Rattle.std.specs.Ordering.{eq_by_cmp}
use Rattle.mt_text_spec.specs.Texts.{Span, Row}
use Rattle.mt_text_spec.specs.Orders.{span_cmp, row_cmp}
use Rattle.mt_rows.proofs.SpansOf.{span_list, spans_listed}
use Rattle.mt_totals.specs.Totals.{HasSpans}

abbrev pub same : Span → Span → Bool
same = eq_by_cmp span_cmp

pub counted : (rows : List Row) (count : ℕ) → IsStrictlySortedBy row_cmp rows → count ≡ length (dedup same (span_list rows)) → HasSpans rows count
counted rows count s e = record { spans = dedup same (span_list rows); all = spans_listed rows s; counted = e }

-- ## One pass

-- how many different spans these are behind one, and that one
abbrev pub behind : Span → List Span → ℕ
behind last spans = length (dedup_from same last spans)

-- where no row is, there is no span
pub none : (rows : List Row) → nat_eq (length rows) 0 ≡ true → HasSpans rows 0
unfolding IsStrictlySortedBy
none [] e = counted [] 0 tt refl
none (r ∷ rows) e = let z = eqb-true (length (r ∷ rows)) 0 e in absurd (omega (arith, z))

-- behind the first row
pub at_first : (rows : List Row) (last : Span) → IsSomeAnd (slice_get rows 0) (λ row. last ≡ row.span) → 1 + behind last (drop 1 (span_list rows)) ≡ length (dedup same (span_list rows)) + 1
at_first [] last e = absurd e
at_first (r ∷ rows) last e = let f : behind last (span_list rows) ≡ behind r.span (span_list rows) = ap (λ (s : Span). behind s (span_list rows)) e in omega (arith, f)

-- the span of a row is that of the list
span_at : (rows : List Row) (i : ℕ) (span : Span) → IsSomeAnd (slice_get rows i) (λ row. span ≡ row.span) → drop i (span_list rows) ≡ span ∷ drop (suc i) (span_list rows)
span_at [] i span e = absurd e
span_at (r ∷ rows) zero span e = ap (λ (x : Span). x ∷ span_list rows) (sym e)
span_at (r ∷ rows) (suc i) span e = span_at rows i span e

again : (last span : Span) (rest : List Span) → same span last ≡ true → behind last (span ∷ rest) ≡ behind last rest
again last span rest t = ap (λ b. length (cond b (dedup_from same last rest) (last ∷ dedup_from same span rest))) t

other : (last span : Span) (rest : List Span) → same span last ≡ false → behind last (span ∷ rest) ≡ suc (behind span rest)
other last span rest t = ap (λ b. length (cond b (dedup_from same last rest) (last ∷ dedup_from same span rest))) t

-- the span of the next row is the last one
pub repeated : (rows : List Row) (i : ℕ) (last span : Span) → IsSomeAnd (slice_get rows i) (λ row. span ≡ row.span) → same span last ≡ true →
    behind last (drop i (span_list rows)) ≡ behind last (drop (i + 1) (span_list rows))
repeated rows i last span e t =
    ap (behind last) (span_at rows i span e) ∙ again last span (drop (suc i) (span_list rows)) t ∙ ap (λ n. behind last (drop n (span_list rows))) (sym (add-one i))

-- it is another
pub another : (rows : List Row) (i : ℕ) (last span : Span) → IsSomeAnd (slice_get rows i) (λ row. span ≡ row.span) → same span last ≡ false →
    behind last (drop i (span_list rows)) ≡ 1 + behind span (drop (i + 1) (span_list rows))
another rows i last span e t =
    let one : behind last (drop i (span_list rows)) ≡ suc (behind span (drop (suc i) (span_list rows))) = ap (behind last) (span_at rows i span e) ∙ other last span (drop (suc i) (span_list rows)) t in
    let next : behind span (drop (suc i) (span_list rows)) ≡ behind span (drop (i + 1) (span_list rows)) = ap (λ n. behind span (drop n (span_list rows))) (sym (add-one i)) in
    omega (arith, one, next)

none_left : (rows : List Row) → drop (length rows) (span_list rows) ≡ []
none_left [] = refl
none_left (r ∷ rows) = none_left rows

-- behind the last row
pub at_end : (rows : List Row) (i : ℕ) (last : Span) → i ≡ length rows → behind last (drop i (span_list rows)) ≡ 1
at_end rows i last e = ap (λ n. behind last (drop n (span_list rows))) e ∙ ap (behind last) (none_left rows)

-- ## What tests tell

pub some_rows : (rows : List Row) → nat_eq (length rows) 0 ≡ false → 1 ≤ length rows
some_rows [] e = cc
some_rows (r ∷ rows) e = omega arith

pub differ : (b : Bool) → true ≡ not b → b ≡ false
differ true e = cc
differ false e = refl

pub are_same : (b : Bool) → false ≡ not b → b ≡ true
are_same true e = refl
are_same false e = cc
