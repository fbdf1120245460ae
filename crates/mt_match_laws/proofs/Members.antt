-- Members of lists, by cases on the list.
use Rattle.std.proofs.Common.{◌≡◌, zero, suc, ◌⊎◌, inl, inr, List, [], ◌∷◌, ◌++◌, sym, subst, arith}
use Rattle.std.specs.List.{Contains, AllByRecursion}

abbrev pub Member : {X : Type 0} → X → List X → Type 0
Member x [] = ⊥
Member x (y ∷ ys) = (x ≡ y) ⊎ Member x ys

pub to_member : {X : Type 0} (xs : List X) (x : X) → Contains xs x → Member x xs
to_member [] x (k, l, e) = absurd (omega (arith, l))
to_member (y ∷ ys) x (zero, l, e) = inl (sym e)
to_member (y ∷ ys) x (suc k, l, e) = inr (to_member ys x (k, omega (arith, l), e))

pub from_member : {X : Type 0} (xs : List X) (x : X) → Member x xs → Contains xs x
from_member [] x m = absurd m
from_member (y ∷ ys) x (inl e) = (0, omega arith, sym e)
from_member (y ∷ ys) x (inr m) = let (k, l, e) = from_member ys x m in (suc k, omega (arith, l), e)

pub in_front : {X : Type 0} (xs ys : List X) (x : X) → Member x xs → Member x (xs ++ ys)
in_front [] ys x m = absurd m
in_front (a ∷ xs) ys x (inl e) = inl e
in_front (a ∷ xs) ys x (inr m) = inr (in_front xs ys x m)

pub in_back : {X : Type 0} (xs ys : List X) (x : X) → Member x ys → Member x (xs ++ ys)
in_back [] ys x m = m
in_back (a ∷ xs) ys x m = inr (in_back xs ys x m)

pub in_either : {X : Type 0} (xs ys : List X) (x : X) → Member x (xs ++ ys) → Member x xs ⊎ Member x ys
in_either [] ys x m = inr m
in_either (a ∷ xs) ys x (inl e) = inl (inl e)
in_either (a ∷ xs) ys x (inr m) = elim (in_either xs ys x m) [ inl front ↦ inl (inr front) | inr back ↦ inr back ]

pub each_member : {X : Type 0} (P : X → Type 0) (xs : List X) (x : X) → AllByRecursion P xs → Member x xs → P x
each_member P [] x all m = absurd m
each_member P (y ∷ ys) x all (inl e) = subst P (sym e) all.0
each_member P (y ∷ ys) x all (inr m) = each_member P ys x all.1 m
