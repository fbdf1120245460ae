-- A query that has not too many rows has no more spans.
use Rattle.std.proofs.Common.{◌≡◌, ◌≢◌, ℕ, suc, ◌+◌, ◌<◌, ◌≤◌, inl, inr, List, [], ◌∷◌, ◌++◌, length, length-append, refl, sym, ◌∙◌, ap, subst, arith}
use Rattle.std.specs.List.{AllByRecursion}
use Rattle.std.specs.List.Sorted.{IsStrictlySortedBy}
use Rattle.std.specs.Cmp.{IsTotalOrder}
use Rattle.std.specs.declared.cmp.Ordering.{Ordering}
use Rattle.std.specs.declared.cmp.Ordering.TheVariants.{Less}
use Rattle.std.proofs.lemmas.Bool.{cases_lt}
use Rattle.std.proofs.lemmas.Cmp.{tied_itself}
use Rattle.mt_text_spec.specs.Registries.{Registry}
use Rattle.mt_text_spec.specs.Queries.{Query}
use Rattle.mt_text_spec.specs.Texts.{Text, Span, Row}
use Rattle.mt_text_spec.specs.Orders.{span_cmp, span_cmp_total}
use Rattle.mt_match_spec.specs.Values.{Images}
use Rattle.mt_match_spec.specs.Kept.{Over, Spans, operand_rows_limit}
use Rattle.mt_match_laws.specs.Laws.{HaveRows}
use Rattle.mt_rows.specs.Laws.{Member, to_member, from_member}
use Rattle.mt_rows.proofs.SpansOf.{span_list}
use Rattle.mt_eval.proofs.Distinct.{in_spans}

-- ## An ascending list is no longer than any list that has its items

-- a list, cut at one of its items
record Cut {X : Type 0} (x : X) (ys : List X) : Type 0 where
  pub front : List X
  pub back : List X
  pub are : ys ≡ front ++ x ∷ back

cut : {X : Type 0} (x : X) (ys : List X) → Member x ys → Cut x ys
cut x [] m = absurd m
cut x (y ∷ ys) (inl e) = record { front = []; back = ys; are = ap (λ z. z ∷ ys) (sym e) }
cut x (y ∷ ys) (inr m) = let c = cut x ys m in record { front = y ∷ c.front; back = c.back; are = ap (λ zs. y ∷ zs) c.are }

-- without that item the others are still there
others : {X : Type 0} (x z : X) (front back : List X) → z ≢ x → Member z (front ++ x ∷ back) → Member z (front ++ back)
others x z [] back ne (inl e) = absurd (ne e)
others x z [] back ne (inr m) = m
others x z (y ∷ front) back ne (inl e) = inl e
others x z (y ∷ front) back ne (inr m) = inr (others x z front back ne m)

above : {X : Type 0} (order : X → X → Ordering) (x z : X) (xs : List X) → AllByRecursion (λ w. order x w ≡ Less) xs → Member z xs → order x z ≡ Less
above order x z [] all m = absurd m
above order x z (y ∷ ys) all (inl e) = subst (λ w. order x w ≡ Less) (sym e) all.0
above order x z (y ∷ ys) all (inr m) = above order x z ys all.1 m

not_itself : {X : Type 0} (order : X → X → Ordering) → IsTotalOrder order → (x z : X) → order x z ≡ Less → z ≢ x
not_itself order total x z less same = let tied = tied_itself total x in let again = ap (order x) (sym same) ∙ less in cc

no_longer : {X : Type 0} (order : X → X → Ordering) → IsTotalOrder order → (xs ys : List X) → IsStrictlySortedBy order xs → ((x : X) → Member x xs → Member x ys) → length xs ≤ length ys
unfolding IsStrictlySortedBy
no_longer order total [] ys s h = omega arith
no_longer {X} order total (x ∷ xs) ys s h =
    let c = cut x ys (h x (inl refl)) in
    let rest : length xs ≤ length (c.front ++ c.back) =
    no_longer order total xs (c.front ++ c.back) s.1
    (λ z m. others x z c.front c.back (not_itself order total x z (above order x z xs s.0 m)) (subst (λ (all : List X). Member z all) c.are (h z (inr m)))) in
    let whole : length ys ≡ length c.front + suc (length c.back) = ap (λ (all : List X). length all) c.are ∙ length-append c.front (x ∷ c.back) in
    let parts : length (c.front ++ c.back) ≡ length c.front + length c.back = length-append c.front c.back in
    omega (arith, rest, whole, parts)

-- ## The spans of a query

as_many : (rows : List Row) → length (span_list rows) ≡ length rows
as_many [] = refl
as_many (row ∷ rows) = ap suc (as_many rows)

not_above : (count limit : ℕ) → (limit < count → ⊥) → count ≤ limit
not_above count limit not = elim (cases_lt limit count) [ inl more ↦ absurd (not more) | inr few ↦ few ]

pub few_spans : HaveRows → (images : Images) (registry : Registry) (corpus : List Text) (query : Query) (spans : List Span) → Spans images registry corpus query spans →
    (¬ Over images registry corpus query) → length spans ≤ operand_rows_limit
few_spans have images registry corpus query spans all few =
    let (rows, are) = have images registry corpus query.head in
    let short : length spans ≤ length (span_list rows) = no_longer span_cmp span_cmp_total spans (span_list rows) all.ascending (λ span m.
    let h = all.only span (from_member spans span m) in
    let row : Row = record { span = span; labels = h.labels } in
    in_spans rows row (to_member rows row (are.each row h.keeps.is_row))) in
    let low : length rows ≤ operand_rows_limit = not_above (length rows) operand_rows_limit (λ more. few (inl (record { rows = rows; are = are; more = more }))) in
    omega (arith, short, low, as_many rows)
