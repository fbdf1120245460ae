-- A list of everything that something holds of, ascending, is one only.
use Rattle.std.proofs.Common.{◌≡◌, inl, inr, List, [], ◌∷◌, refl, sym, ◌∙◌, ap, ap₂}
use Rattle.std.specs.List.{AllByRecursion}
use Rattle.std.specs.List.Sorted.{IsStrictlySortedBy}
use Rattle.std.specs.Cmp.{IsTotalOrder}
use Rattle.std.specs.declared.cmp.Ordering.{Ordering}
use Rattle.std.specs.declared.cmp.Ordering.TheVariants.{Less}
use Rattle.std.proofs.lemmas.Cmp.{tied_itself}
use Rattle.mt_text_spec.specs.Orders.{span_cmp_total, row_cmp_total}
use Rattle.mt_match_spec.specs.Rows.{ListsAll}
use Rattle.mt_match_laws.proofs.Members.{Member, to_member, from_member, each_member}
use Rattle.mt_match_laws.specs.Laws.{ListsAreOne, RowsAreOne, KeptAreOne, SpansAreOne}

module _ {X : Type 0} {order : X → X → Ordering} (o : IsTotalOrder order) where
  -- nothing comes before itself
  not_before_itself : (x y : X) → x ≡ y → order x y ≡ Less → ⊥
  not_before_itself x y same less = let tied = tied_itself o x in let again : order x x ≡ Less = ap (order x) same ∙ less in cc

  not_both : (x y : X) → order x y ≡ Less → order y x ≡ Less → ⊥
  not_both x y less more = let turned = o.antisymm x y in cc

  -- the first of two lists with the same members
  same_first : (x y : X) (xs ys : List X) → AllByRecursion (λ z. order x z ≡ Less) xs → AllByRecursion (λ z. order y z ≡ Less) ys → Member x (y ∷ ys) → Member y (x ∷ xs) → x ≡ y
  same_first x y xs ys above over (inl e) m = e
  same_first x y xs ys above over (inr n) (inl e) = sym e
  same_first x y xs ys above over (inr n) (inr m) = absurd (not_both y x (each_member (λ z. order y z ≡ Less) ys x over n) (each_member (λ z. order x z ≡ Less) xs y above m))

  -- what is in the rest of one list is in the rest of the other
  in_rest : (x y z : X) (xs ys : List X) → x ≡ y → AllByRecursion (λ w. order x w ≡ Less) xs → Member z xs → Member z (y ∷ ys) → Member z ys
  in_rest x y z xs ys same above m (inl e) = absurd (not_before_itself x z (same ∙ sym e) (each_member (λ w. order x w ≡ Less) xs z above m))
  in_rest x y z xs ys same above m (inr n) = n

  pub one_list : (xs ys : List X) → IsStrictlySortedBy order xs → IsStrictlySortedBy order ys → ((z : X) → Member z xs → Member z ys) → ((z : X) → Member z ys → Member z xs) → xs ≡ ys
  unfolding IsStrictlySortedBy
  one_list [] [] s t to from = refl
  one_list [] (y ∷ ys) s t to from = absurd (from y (inl refl))
  one_list (x ∷ xs) [] s t to from = absurd (to x (inl refl))
  one_list (x ∷ xs) (y ∷ ys) s t to from =
      let e = same_first x y xs ys s.0 t.0 (to x (inl refl)) (from y (inl refl)) in
      ap₂ ◌∷◌ e (one_list xs ys s.1 t.1 (λ z m. in_rest x y z xs ys e s.0 m (to z (inr m))) (λ z m. in_rest y x z ys xs (sym e) t.0 m (from z (inr m))))

  pub one : (P : X → Type 0) (xs ys : List X) → ListsAll order P xs → ListsAll order P ys → xs ≡ ys
  one P xs ys a b =
      one_list xs ys a.ascending b.ascending (λ z m. to_member ys z (b.each z (a.only z (from_member xs z m)))) (λ z m. to_member xs z (a.each z (b.only z (from_member ys z m))))

pub lists_one : ListsAreOne
lists_one rows others up too in_others in_rows =
    one_list row_cmp_total rows others up too (λ z m. to_member others z (in_others z (from_member rows z m))) (λ z m. to_member rows z (in_rows z (from_member others z m)))

pub rows_one : RowsAreOne
rows_one images registry corpus expr rows others a b = one row_cmp_total _ rows others a b

pub kept_one : KeptAreOne
kept_one images registry corpus query rows others a b = one row_cmp_total _ rows others a b

pub spans_one : SpansAreOne
spans_one images registry corpus query spans others a b = one span_cmp_total _ spans others a b
