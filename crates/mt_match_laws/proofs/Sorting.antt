-- The members of a list in ascending order, each once.
use Rattle.std.proofs.Common.{◌≡◌, ◌⊎◌, inl, inr, List, [], ◌∷◌, refl, sym, subst}
use Rattle.std.specs.List.{AllByRecursion}
use Rattle.std.specs.List.Sorted.{IsStrictlySortedBy}
use Rattle.std.specs.Cmp.{IsTotalOrder}
use Rattle.std.specs.declared.cmp.Ordering.{Ordering}
use Rattle.std.specs.declared.cmp.Ordering.TheVariants.{Less, Equal, Greater}
use Rattle.mt_match_spec.specs.Rows.{ListsAll}
use Rattle.mt_match_laws.proofs.Members.{Member, to_member, from_member}

abbrev put_by : {X : Type 0} → Ordering → X → X → List X → List X → List X
put_by Less x y ys rest = x ∷ y ∷ ys
put_by Equal x y ys rest = y ∷ ys
put_by Greater x y ys rest = y ∷ rest

-- puts one into its place
abbrev put : {X : Type 0} → (X → X → Ordering) → X → List X → List X
put order x [] = x ∷ []
put order x (y ∷ ys) = put_by (order x y) x y ys (put order x ys)

abbrev pub sorted : {X : Type 0} → (X → X → Ordering) → List X → List X
sorted order [] = []
sorted order (x ∷ xs) = put order x (sorted order xs)

module _ {X : Type 0} {order : X → X → Ordering} (o : IsTotalOrder order) (same : (x y : X) → order x y ≡ Equal → x ≡ y) where
  -- who is in a list with one more
  put_step : (r : Ordering) (x y z : X) (ys rest : List X) → (Member z rest → (z ≡ x) ⊎ Member z ys) → Member z (put_by r x y ys rest) → (z ≡ x) ⊎ Member z (y ∷ ys)
  put_step Less x y z ys rest h (inl e) = inl e
  put_step Less x y z ys rest h (inr m) = inr m
  put_step Equal x y z ys rest h m = inr m
  put_step Greater x y z ys rest h (inl e) = inr (inl e)
  put_step Greater x y z ys rest h (inr m) = elim (h m) [ inl e ↦ inl e | inr n ↦ inr (inr n) ]

  from_put : (x z : X) (ys : List X) → Member z (put order x ys) → (z ≡ x) ⊎ Member z ys
  from_put x z [] (inl e) = inl e
  from_put x z [] (inr m) = absurd m
  from_put x z (y ∷ ys) m = put_step (order x y) x y z ys (put order x ys) (from_put x z ys) m

  put_new : (r : Ordering) (x y : X) (ys rest : List X) → order x y ≡ r → Member x rest → Member x (put_by r x y ys rest)
  put_new Less x y ys rest e m = inl refl
  put_new Equal x y ys rest e m = inl (same x y e)
  put_new Greater x y ys rest e m = inr m

  is_put : (x : X) (ys : List X) → Member x (put order x ys)
  is_put x [] = inl refl
  is_put x (y ∷ ys) = put_new (order x y) x y ys (put order x ys) refl (is_put x ys)

  put_old : (r : Ordering) (x y z : X) (ys rest : List X) → (Member z ys → Member z rest) → Member z (y ∷ ys) → Member z (put_by r x y ys rest)
  put_old Less x y z ys rest h m = inr m
  put_old Equal x y z ys rest h m = m
  put_old Greater x y z ys rest h (inl e) = inl e
  put_old Greater x y z ys rest h (inr m) = inr (h m)

  stays : (x z : X) (ys : List X) → Member z ys → Member z (put order x ys)
  stays x z [] m = absurd m
  stays x z (y ∷ ys) m = put_old (order x y) x y z ys (put order x ys) (stays x z ys) m

  -- all of a list with one more are above y
  above_step : (r : Ordering) (y x w : X) (ws rest : List X) → order y x ≡ Less → order y w ≡ Less → AllByRecursion (λ z. order y z ≡ Less) ws → AllByRecursion (λ z. order y z ≡ Less) rest →
      AllByRecursion (λ z. order y z ≡ Less) (put_by r x w ws rest)
  above_step Less y x w ws rest l m all others = (l, (m, all))
  above_step Equal y x w ws rest l m all others = (m, all)
  above_step Greater y x w ws rest l m all others = (m, others)

  above : (y x : X) (ws : List X) → order y x ≡ Less → AllByRecursion (λ z. order y z ≡ Less) ws → AllByRecursion (λ z. order y z ≡ Less) (put order x ws)
  above y x [] l all = (l, tt)
  above y x (w ∷ ws) l all = above_step (order x w) y x w ws (put order x ws) l all.0 all.1 (above y x ws l all.1)

  all_above : (x y : X) (ws : List X) → order x y ≡ Less → AllByRecursion (λ z. order y z ≡ Less) ws → AllByRecursion (λ z. order x z ≡ Less) ws
  all_above x y [] l all = tt
  all_above x y (w ∷ ws) l all = (o.trans x y w l all.0, all_above x y ws l all.1)

  put_sorted_by : (r : Ordering) (x y : X) (ys rest : List X) → order x y ≡ r → IsStrictlySortedBy order (y ∷ ys) → (order y x ≡ Less → AllByRecursion (λ z. order y z ≡ Less) rest) → IsStrictlySortedBy order rest →
      IsStrictlySortedBy order (put_by r x y ys rest)
  unfolding IsStrictlySortedBy
  put_sorted_by Less x y ys rest e s h t = ((e, all_above x y ys e s.0), s)
  put_sorted_by Equal x y ys rest e s h t = s
  put_sorted_by Greater x y ys rest e s h t = let turned = o.antisymm y x in let less : order y x ≡ Less = cc in (h less, t)

  put_sorted : (x : X) (ys : List X) → IsStrictlySortedBy order ys → IsStrictlySortedBy order (put order x ys)
  unfolding IsStrictlySortedBy
  put_sorted x [] s = (tt, tt)
  put_sorted x (y ∷ ys) s = put_sorted_by (order x y) x y ys (put order x ys) refl s (λ l. above y x ys l s.0) (put_sorted x ys s.1)

  is_sorted : (xs : List X) → IsStrictlySortedBy order (sorted order xs)
  unfolding IsStrictlySortedBy
  is_sorted [] = tt
  is_sorted (x ∷ xs) = put_sorted x (sorted order xs) (is_sorted xs)

  from_sorted : (z : X) (xs : List X) → Member z (sorted order xs) → Member z xs
  from_sorted z [] m = m
  from_sorted z (x ∷ xs) m = elim (from_put x z (sorted order xs) m) [ inl e ↦ inl e | inr n ↦ inr (from_sorted z xs n) ]

  in_sorted : (z : X) (xs : List X) → Member z xs → Member z (sorted order xs)
  in_sorted z [] m = m
  in_sorted z (x ∷ xs) (inl e) = subst (λ (y : X). Member y (put order x (sorted order xs))) (sym e) (is_put x (sorted order xs))
  in_sorted z (x ∷ xs) (inr m) = stays x z (sorted order xs) (in_sorted z xs m)

  -- what is listed in any order has a list in ascending order
  pub in_order : (P : X → Type 0) (xs : List X) → ((x : X) → Member x xs → P x) → ((x : X) → P x → Member x xs) → ListsAll order P (sorted order xs)
  in_order P xs only each = record {
    ascending = is_sorted xs;
    only = λ x m. only x (from_sorted x xs (to_member (sorted order xs) x m));
    each = λ x p. from_member (sorted order xs) x (in_sorted x xs (each x p));
  }
