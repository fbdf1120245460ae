-- Ascending lists one behind another, and ascending lists whose members are changed.
use Rattle.std.proofs.Common.{◌≡◌, zero, suc, List, [], ◌∷◌, ◌++◌, map, refl, arith}
use Rattle.std.specs.List.{Contains, AllByRecursion}
use Rattle.std.specs.List.Sorted.{IsStrictlySortedBy}
use Rattle.std.specs.declared.cmp.Ordering.{Ordering}
use Rattle.std.specs.declared.cmp.Ordering.TheVariants.{Less}

-- ---- members

behind : {X : Type 0} (y : X) (ys : List X) (x : X) → Contains ys x → Contains (y ∷ ys) x
behind y ys x (k, l, e) = (suc k, omega (arith, l), e)

module _ {X Y : Type 0} (f : X → Y) where
  pub mapped_member : (xs : List X) (x : X) → Contains xs x → Contains (map f xs) (f x)
  mapped_member [] x (k, l, e) = absurd (omega (arith, l))
  mapped_member (y ∷ ys) x (zero, l, e) = (0, omega arith, λ i. f (e i))
  mapped_member (y ∷ ys) x (suc k, l, e) = behind (f y) (map f ys) (f x) (mapped_member ys x (k, omega (arith, l), e))

  -- what a member of a list is made to
  pub record IsMade (xs : List X) (y : Y) : Type 0 where
    pub from : X
    pub member : Contains xs from
    pub is : f from ≡ y

  pub was_mapped : (xs : List X) (y : Y) → Contains (map f xs) y → IsMade xs y
  was_mapped [] y (k, l, e) = absurd (omega (arith, l))
  was_mapped (x ∷ xs) y (zero, l, e) = record { from = x; member = (0, omega arith, refl); is = e }
  was_mapped (x ∷ xs) y (suc k, l, e) = let made = was_mapped xs y (k, omega (arith, l), e) in record { from = made.from; member = behind x xs made.from made.member; is = made.is }

  -- ---- members that obey

  all_made : (P : X → Type 0) (Q : Y → Type 0) (xs : List X) → AllByRecursion P xs → ((x : X) → Contains xs x → P x → Q (f x)) → AllByRecursion Q (map f xs)
  all_made P Q [] all h = tt
  all_made P Q (x ∷ xs) all h = (h x (0, omega arith, refl) all.0, all_made P Q xs all.1 (λ z m p. h z (behind x xs z m) p))

  -- changed members ascend where each change keeps the order
  pub made_ascends : (order : X → X → Ordering) (other : Y → Y → Ordering) (xs : List X) → IsStrictlySortedBy order xs →
      ((x z : X) → Contains xs x → Contains xs z → order x z ≡ Less → other (f x) (f z) ≡ Less) → IsStrictlySortedBy other (map f xs)
  unfolding IsStrictlySortedBy
  made_ascends order other [] s h = tt
  made_ascends order other (x ∷ xs) s h = (
    all_made (λ z. order x z ≡ Less) (λ z. other (f x) z ≡ Less) xs s.0 (λ z m e. h x z (0, omega arith, refl) (behind x xs z m) e),
    made_ascends order other xs s.1 (λ y z m n e. h y z (behind x xs y m) (behind x xs z n) e),
  )

module _ {X : Type 0} where
  all_members : (P : X → Type 0) (xs : List X) → ((x : X) → Contains xs x → P x) → AllByRecursion P xs
  all_members P [] h = tt
  all_members P (x ∷ xs) h = (h x (0, omega arith, refl), all_members P xs (λ z m. h z (behind x xs z m)))

  all_appended : (P : X → Type 0) (xs ys : List X) → AllByRecursion P xs → ((y : X) → Contains ys y → P y) → AllByRecursion P (xs ++ ys)
  all_appended P [] ys all h = all_members P ys h
  all_appended P (x ∷ xs) ys all h = (all.0, all_appended P xs ys all.1 h)

  -- a list behind another ascends with it where each of its members is above all of that one
  pub appended_ascends : (order : X → X → Ordering) (xs ys : List X) → IsStrictlySortedBy order xs → IsStrictlySortedBy order ys →
      ((x y : X) → Contains xs x → Contains ys y → order x y ≡ Less) → IsStrictlySortedBy order (xs ++ ys)
  unfolding IsStrictlySortedBy
  appended_ascends order [] ys s t h = t
  appended_ascends order (x ∷ xs) ys s t h = (
    all_appended (λ z. order x z ≡ Less) xs ys s.0 (λ y m. h x y (0, omega arith, refl) m),
    appended_ascends order xs ys s.1 t (λ y z m n. h y z (behind x xs y m) n),
  )
