-- Ascending rows that stand in an ascending list are no more than its rows.
use Rattle.std.proofs.Common.{◌≡◌, zero, suc, ◌≤◌, ◌⊎◌, inl, inr, List, [], ◌∷◌, length, refl, sym, ◌∙◌, ap, subst, arith}
use Rattle.std.specs.List.{Contains, AllByRecursion}
use Rattle.std.specs.List.Sorted.{IsStrictlySortedBy}
use Rattle.std.specs.declared.cmp.Ordering.TheVariants.{Less}
use Rattle.std.proofs.lemmas.Cmp.{tied_itself}
use Rattle.mt_text_spec.specs.Texts.{Row}
use Rattle.mt_text_spec.specs.Orders.{row_cmp, row_cmp_total}
use Rattle.mt_eval_laws.specs.Laws.{NoMoreThanAll}

abbrev Member : Row → List Row → Type 0
Member x [] = ⊥
Member x (y ∷ ys) = (x ≡ y) ⊎ Member x ys

to_member : (xs : List Row) (x : Row) → Contains xs x → Member x xs
to_member [] x (k, l, e) = absurd (omega (arith, l))
to_member (y ∷ ys) x (zero, l, e) = inl (sym e)
to_member (y ∷ ys) x (suc k, l, e) = inr (to_member ys x (k, omega (arith, l), e))

from_member : (xs : List Row) (x : Row) → Member x xs → Contains xs x
from_member [] x m = absurd m
from_member (y ∷ ys) x (inl e) = (0, omega arith, sym e)
from_member (y ∷ ys) x (inr m) = let (k, l, e) = from_member ys x m in (suc k, omega (arith, l), e)

above : (x z : Row) (xs : List Row) → AllByRecursion (λ w. row_cmp x w ≡ Less) xs → Member z xs → row_cmp x z ≡ Less
above x z [] all m = absurd m
above x z (y ∷ ys) all (inl e) = subst (λ w. row_cmp x w ≡ Less) (sym e) all.0
above x z (y ∷ ys) all (inr m) = above x z ys all.1 m

not_itself : (x z : Row) → row_cmp x z ≡ Less → z ≡ x → ⊥
not_itself x z less same = let tied = tied_itself row_cmp_total x in let again = ap (row_cmp x) (sym same) ∙ less in cc

-- what lies above the first of a list lies in the rest
in_rest : (y z : Row) (ys : List Row) → row_cmp y z ≡ Less → Member z (y ∷ ys) → Member z ys
in_rest y z ys less (inl e) = absurd (not_itself y z less e)
in_rest y z ys less (inr m) = m

pub shorter : (rows all : List Row) → IsStrictlySortedBy row_cmp rows → IsStrictlySortedBy row_cmp all → ((z : Row) → Member z rows → Member z all) → length rows ≤ length all
unfolding IsStrictlySortedBy
shorter [] all s t in_all = omega arith
shorter (x ∷ xs) [] s t in_all = absurd (in_all x (inl refl))
shorter (x ∷ xs) (y ∷ ys) s t in_all = by (in_all x (inl refl)) (λ h. shorter xs ys s.1 t.1 h) (λ h. shorter (x ∷ xs) ys s t.1 h)
  where
    by : Member x (y ∷ ys) → (((z : Row) → Member z xs → Member z ys) → length xs ≤ length ys) → (((z : Row) → Member z (x ∷ xs) → Member z ys) → suc (length xs) ≤ length ys) → suc (length xs) ≤ suc (length ys)
    by (inl e) rest whole = let low = rest (λ z m. in_rest y z ys (subst (λ w. row_cmp w z ≡ Less) e (above x z xs s.0 m)) (in_all z (inr m))) in omega (arith, low)
    by (inr m) rest whole =
        let first : row_cmp y x ≡ Less = above y x ys t.0 m in
        let low = whole (λ z. λ h. elim h [ inl e ↦ subst (λ w. Member w ys) (sym e) m | inr n ↦ in_rest y z ys (row_cmp_total.trans y x z first (above x z xs s.0 n)) (in_all z (inr n)) ]) in
        omega (arith, low)

pub no_more : NoMoreThanAll
no_more rows all up too each = shorter rows all up too (λ z m. to_member all z (each z (from_member rows z m)))
