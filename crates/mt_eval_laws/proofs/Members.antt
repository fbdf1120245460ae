-- Members of what is left of a list by a test.
use Rattle.std.proofs.Common.{◌≡◌, ℕ, zero, suc, ◌<◌, Bool, true, false, cond, List, [], ◌∷◌, length, get_or, refl, sym, ◌∙◌, ap, subst, arith}
use Rattle.std.specs.List.{Contains, filter}
use Rattle.std.proofs.lemmas.List.Elements.{All-contains, All-filter, All-contains_itself, filter_passes}

module _ {X : Type 0} (p : X → Bool) where
  pub was_member : (xs : List X) (x : X) → Contains (filter p xs) x → Contains xs x
  was_member xs x h = All-contains (Contains xs) (filter p xs) x (All-filter p (Contains xs) xs (All-contains_itself xs)) h

  pub passes : (xs : List X) (x : X) → Contains (filter p xs) x → p x ≡ true
  passes xs x h = All-contains (λ y. p y ≡ true) (filter p xs) x (filter_passes p xs) h

  behind : (y : X) (ys : List X) (x : X) → Contains ys x → Contains (y ∷ ys) x
  behind y ys x (k, l, e) = (suc k, omega (arith, l), e)

  cons_member : (y : X) (ys : List X) (x : X) (b : Bool) → p y ≡ b → p x ≡ true → (Contains ys x → Contains (filter p ys) x) → (k : ℕ) → k < suc (length ys) → get_or (y ∷ ys) k x ≡ x → Contains (filter p (y ∷ ys)) x
  cons_member y ys x true on is more zero l e = subst (λ zs. Contains zs x) (sym (ap (λ c. cond c (y ∷ filter p ys) (filter p ys)) on)) (0, omega arith, e)
  cons_member y ys x true on is more (suc k) l e = subst (λ zs. Contains zs x) (sym (ap (λ c. cond c (y ∷ filter p ys) (filter p ys)) on)) (behind y (filter p ys) x (more (k, omega (arith, l), e)))
  cons_member y ys x false off is more zero l e = let f : true ≡ false = sym is ∙ ap p (sym e) ∙ off in cc
  cons_member y ys x false off is more (suc k) l e = subst (λ zs. Contains zs x) (sym (ap (λ c. cond c (y ∷ filter p ys) (filter p ys)) off)) (more (k, omega (arith, l), e))

  pub is_member : (xs : List X) (x : X) → Contains xs x → p x ≡ true → Contains (filter p xs) x
  is_member [] x (k, l, e) is = absurd (omega (arith, l))
  is_member (y ∷ ys) x (k, l, e) is = cons_member y ys x (p y) refl is (λ h. is_member ys x h is) k l e
