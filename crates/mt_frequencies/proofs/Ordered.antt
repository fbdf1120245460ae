-- What is sorted by a total order is a list of all, where it is told by its values.
use Rattle.std.proofs.Common.{◌≡◌, ℕ, suc, ◌<◌, inl, inr, Bool, true, false, cond, nat_eq, List, [], ◌∷◌, length, map, filter, get_or, refl, sym, ◌∙◌, ap, subst, arith, true≢false}
use Rattle.std.specs.declared.cmp.Ordering.{Ordering}
use Rattle.std.specs.declared.cmp.Ordering.TheVariants.{Less, Equal, Greater}
use Rattle.std.specs.Ordering.{ordering_reverse, is_eq, is_lt}
use Rattle.std.specs.Cmp.{IsTotalOrder, Equal-is}
use Rattle.std.specs.Cmp.Lexicographic.{pointwise, bytes_decides}
use Rattle.std.specs.List.{AllByRecursion, Contains, IsDistinct}
use Rattle.std.specs.List.Sorted.{IsPermutation, IsSorted, IsStrictlySortedBy}
use Rattle.std.proofs.lemmas.List.Elements.{recursion_from_All}
use Rattle.std.proofs.lemmas.List.Sorted.{sorted_far, ranks_by, Contains-permutation, IsPermutation-sym}
use Rattle.std.proofs.lemmas.Map.Keys.{IsDistinct-IsPermutation}
use Rattle.mt_match_spec.specs.Rows.{ListsAll}
use Rattle.mt_match_laws.proofs.Members.{Member, to_member, from_member}

-- an entry is made of one of the values that are kept
pub record IsMadeOf {X : Type 0} (made : List ℕ → X) (keep : List ℕ → Bool) (values : List (List ℕ)) (x : X) : Type 0 where
  pub value : List ℕ
  pub member : Contains values value
  pub kept : keep value ≡ true
  pub is : x ≡ made value

module _ {X : Type 0} {order : X → X → Ordering} (o : IsTotalOrder order) where
  -- ## Distinct entries in order

  less_of : (x y : X) → is_lt (order y x) ≡ false → is_eq (order x y) ≡ false → order x y ≡ Less
  less_of x y not_less not_same = by (order x y) refl
    where
      by : (r : Ordering) → order x y ≡ r → order x y ≡ Less
      by Less e = e
      by Equal e = absurd (true≢false (sym (ap is_eq e) ∙ not_same))
      by Greater e = absurd (true≢false (sym (ap is_lt (o.antisymm y x ∙ ap ordering_reverse e)) ∙ not_less))

  all_less : (x : X) (ys : List X) → AllByRecursion (λ y. is_lt (order y x) ≡ false) ys → AllByRecursion (λ y. is_eq (order x y) ≡ false) ys → AllByRecursion (λ y. order x y ≡ Less) ys
  all_less x [] up apart = tt
  all_less x (y ∷ ys) up apart = (less_of x y up.0 apart.0, all_less x ys up.1 apart.1)

  strictly : (xs : List X) → ((i j : ℕ) (d : X) → i < j → j < length xs → is_lt (order (get_or xs j d) (get_or xs i d)) ≡ false) → IsDistinct (λ x y. is_eq (order x y)) xs → IsStrictlySortedBy order xs
  unfolding IsStrictlySortedBy IsDistinct
  strictly [] far apart = tt
  strictly (x ∷ xs) far apart =
      (all_less x xs (recursion_from_All (λ y. is_lt (order y x) ≡ false) xs (λ k d l. far 0 (suc k) d (omega arith) (omega arith))) apart.0, strictly xs (λ i j d l m. far (suc i) (suc j) d (omega arith) (omega arith)) apart.1)

  ascending : (xs : List X) → IsSorted order xs → IsDistinct (λ x y. is_eq (order x y)) xs → IsStrictlySortedBy order xs
  ascending xs up apart = strictly xs (λ i j d l m. sorted_far (λ x y. is_lt (order x y)) (ranks_by o (λ x. x)) xs up i j d (omega arith) m) apart

  same_both : (x y : X) → is_eq (order x y) ≡ is_eq (order y x)
  same_both x y = ap is_eq (o.antisymm x y) ∙ turned (order y x)
    where
      turned : (r : Ordering) → is_eq (ordering_reverse r) ≡ is_eq r
      turned Less = refl
      turned Equal = refl
      turned Greater = refl

  -- ## Entries of distinct values

  module _ (made : List ℕ → X) (apart : (v w : List ℕ) → order (made v) (made w) ≡ Equal → v ≡ w) (keep : List ℕ → Bool) where
    not_tied : (v w : List ℕ) → pointwise nat_eq v w ≡ false → is_eq (order (made v) (made w)) ≡ false
    not_tied v w differ = by (is_eq (order (made v) (made w))) refl
      where
        by : (b : Bool) → is_eq (order (made v) (made w)) ≡ b → is_eq (order (made v) (made w)) ≡ false
        by false e = e
        by true e = absurd (true≢false (sym ((bytes_decides v w).1 (apart v w ((Equal-is (order (made v) (made w))).0 e))) ∙ differ))

    none_tied : (v : List ℕ) (ws : List (List ℕ)) → AllByRecursion (λ w. pointwise nat_eq v w ≡ false) ws → AllByRecursion (λ x. is_eq (order (made v) x) ≡ false) (map made (filter keep ws))
    none_tied v [] all = tt
    none_tied v (w ∷ ws) all = by (keep w) (none_tied v ws all.1)
      where
        by : (b : Bool) → AllByRecursion (λ x. is_eq (order (made v) x) ≡ false) (map made (filter keep ws)) → AllByRecursion (λ x. is_eq (order (made v) x) ≡ false) (map made (cond b (w ∷ filter keep ws) (filter keep ws)))
        by true rest = (not_tied v w all.0, rest)
        by false rest = rest

    distinct_entries : (vs : List (List ℕ)) → IsDistinct (pointwise nat_eq) vs → IsDistinct (λ x y. is_eq (order x y)) (map made (filter keep vs))
    unfolding IsDistinct
    distinct_entries [] d = tt
    distinct_entries (v ∷ vs) d = by (keep v) (distinct_entries vs d.1)
      where
        by : (b : Bool) → IsDistinct (λ x y. is_eq (order x y)) (map made (filter keep vs)) → IsDistinct (λ x y. is_eq (order x y)) (map made (cond b (v ∷ filter keep vs) (filter keep vs)))
        by true rest = (none_tied v vs d.0, rest)
        by false rest = rest

    -- ## Which entries there are

    from_entries : (vs : List (List ℕ)) (x : X) → Member x (map made (filter keep vs)) → IsMadeOf made keep vs x
    from_entries [] x m = absurd m
    from_entries (v ∷ vs) x m = by (keep v) refl (from_entries vs x) m
      where
        later : IsMadeOf made keep vs x → IsMadeOf made keep (v ∷ vs) x
        later is = record { value = is.value; member = from_member (v ∷ vs) is.value (inr (to_member vs is.value is.member)); kept = is.kept; is = is.is }

        by : (b : Bool) → keep v ≡ b → (Member x (map made (filter keep vs)) → IsMadeOf made keep vs x) → Member x (map made (cond b (v ∷ filter keep vs) (filter keep vs))) → IsMadeOf made keep (v ∷ vs) x
        by true e rest (inl same) = record { value = v; member = from_member (v ∷ vs) v (inl refl); kept = e; is = same }
        by true e rest (inr more) = later (rest more)
        by false e rest more = later (rest more)

    in_entries : (vs : List (List ℕ)) (w : List ℕ) → Member w vs → keep w ≡ true → Member (made w) (map made (filter keep vs))
    in_entries [] w m kept = m
    in_entries (v ∷ vs) w m kept = by (keep v) refl (in_entries vs w) m
      where
        by : (b : Bool) → keep v ≡ b → (Member w vs → keep w ≡ true → Member (made w) (map made (filter keep vs))) → Member w (v ∷ vs) → Member (made w) (map made (cond b (v ∷ filter keep vs) (filter keep vs)))
        by true e rest (inl same) = inl (ap made same)
        by true e rest (inr more) = inr (rest more kept)
        by false e rest (inl same) = absurd (true≢false (sym kept ∙ ap keep same ∙ e))
        by false e rest (inr more) = rest more kept

    pub lists_all : (P : X → Type 0) (values : List (List ℕ)) (all : List X) → IsDistinct (pointwise nat_eq) values → ((v : List ℕ) → Contains values v → keep v ≡ true → P (made v)) → ((x : X) → P x → IsMadeOf made keep values x) →
        IsPermutation (map made (filter keep values)) all → IsSorted order all → ListsAll order P all
    lists_all P values all distinct only each moved up = record {
      ascending = ascending all up (IsDistinct-IsPermutation (λ x y. is_eq (order x y)) same_both (map made (filter keep values)) all moved (distinct_entries values distinct));
      only = λ x c.
          let is = from_entries values x (to_member (map made (filter keep values)) x (Contains-permutation all (map made (filter keep values)) x (IsPermutation-sym (map made (filter keep values)) all moved) c)) in
          subst P (sym is.is) (only is.value is.member is.kept);
      each = λ x p.
          let is = each x p in
          let there = from_member (map made (filter keep values)) (made is.value) (in_entries values is.value (to_member values is.value is.member) is.kept) in
          Contains-permutation (map made (filter keep values)) all x moved (subst (λ (y : X). Contains (map made (filter keep values)) y) (sym is.is) there);
    }
