-- Lists that are split at an element.
use Rattle.std.proofs.Common.{◌≡◌, ◌<◌, ◌⊎◌, inl, inr, Bool, true, false, cond, ◌||◌, List, [], ◌∷◌, ◌++◌, length, refl, sym, ◌∙◌, ap, subst, arith, Some}
use Rattle.std.specs.List.{All, find, list_any}
use Rattle.std.proofs.lemmas.List.Elements.{All-head, All-tail}

pub no_split : {A : Type 0} (e : List A) (x : A) (r : List A) → [] ≡ e ++ x ∷ r → ⊥
no_split [] x r same = cc
no_split (y ∷ e) x r same = cc

-- a split of a list with one more element is at that element or before it
pub snoc_split : {A : Type 0} (front : List A) (s : A) (e : List A) (x : A) (r : List A) → front ++ s ∷ [] ≡ e ++ x ∷ r →
    ((e ≡ front) × (x ≡ s)) ⊎ ((l : List A) × (front ≡ e ++ x ∷ l))
snoc_split [] s [] x r same = inl (refl, let h : x ≡ s = cc in h)
snoc_split [] s (y ∷ e) x r same = let tail : [] ≡ e ++ x ∷ r = cc in absurd (no_split e x r tail)
snoc_split (y ∷ front) s [] x r same = let head : y ≡ x = cc in inr (front, ap (λ z. z ∷ front) head)
snoc_split {A} (y ∷ front) s (z ∷ e) x r same =
    let head : y ≡ z = cc in
    let tail : front ++ s ∷ [] ≡ e ++ x ∷ r = cc in
    let P : Type 0 = ((z ∷ e ≡ y ∷ front) × (x ≡ s)) ⊎ ((l : List A) × (y ∷ front ≡ z ∷ e ++ x ∷ l)) in
    elim (snoc_split front s e x r tail) as (λ _. P) [
      | inl w ↦ inl (ap (λ (t : List A). z ∷ t) w.0 ∙ ap (λ t. t ∷ front) (sym head), w.1)
      | inr w ↦ inr (w.0, ap (λ t. t ∷ front) head ∙ ap (λ (t : List A). z ∷ t) w.1)
    ]

-- of two splits of one list the later one begins with the earlier one
pub later_split : {A : Type 0} (e : List A) (x : A) (r : List A) (f : List A) (y : A) (s : List A) → e ++ x ∷ r ≡ f ++ y ∷ s → length e < length f → (mid : List A) × (f ≡ e ++ x ∷ mid)
later_split [] x r [] y s same less = absurd (omega arith)
later_split [] x r (z ∷ f) y s same less = let head : z ≡ x = cc in (f, ap (λ t. t ∷ f) head)
later_split (w ∷ e) x r [] y s same less = absurd (omega arith)
later_split {A} (w ∷ e) x r (z ∷ f) y s same less =
    let head : z ≡ w = cc in
    let tail : e ++ x ∷ r ≡ f ++ y ∷ s = cc in
    let l = later_split e x r f y s tail (omega arith) in
    (l.0, ap (λ t. t ∷ f) head ∙ ap (λ (t : List A). w ∷ t) l.1)

pub same_split : {A : Type 0} (e : List A) (x : A) (r : List A) (f : List A) (y : A) (s : List A) → e ++ x ∷ r ≡ f ++ y ∷ s → length e ≡ length f → (e ≡ f) × (x ≡ y)
same_split [] x r [] y s same equal = (refl, let h : x ≡ y = cc in h)
same_split [] x r (z ∷ f) y s same equal = absurd (omega arith)
same_split (w ∷ e) x r [] y s same equal = absurd (omega arith)
same_split {A} (w ∷ e) x r (z ∷ f) y s same equal =
    let head : w ≡ z = cc in
    let tail : e ++ x ∷ r ≡ f ++ y ∷ s = cc in
    let l = same_split e x r f y s tail (omega arith) in
    (ap (λ t. t ∷ e) head ∙ ap (λ (t : List A). z ∷ t) l.0, l.1)

-- ## What is found

-- the first element that passes
pub record Found {A : Type 0} (p : A → Bool) (xs : List A) (x : A) : Type 0 where
  pub before : List A
  pub after : List A
  pub are : xs ≡ before ++ x ∷ after
  pub passes : p x ≡ true
  pub none : list_any p before ≡ false

found_here : {A : Type 0} (p : A → Bool) (y : A) (xs : List A) (x : A) (b : Bool) → p y ≡ b → (find p xs ≡ Some x → Found p xs x) → cond b (Some y) (find p xs) ≡ Some x → Found p (y ∷ xs) x
found_here {A} p y xs x true is later e =
    let same : y ≡ x = cc in
    record { before = []; after = xs; are = ap (λ z. z ∷ xs) same; passes = ap p (sym same) ∙ is; none = refl }
found_here {A} p y xs x false is later e =
    let l = later e in
    record { before = y ∷ l.before; after = l.after; are = ap (λ (z : List A). y ∷ z) l.are; passes = l.passes; none = ap (λ b. b || list_any p l.before) is ∙ l.none }

pub found : {A : Type 0} (p : A → Bool) (xs : List A) (x : A) → find p xs ≡ Some x → Found p xs x
found p [] x e = cc
found p (y ∷ xs) x e = found_here p y xs x (p y) refl (found p xs x) e

pub All-split : {A : Type 0} (P : A → Type 0) (xs before : List A) (x : A) (after : List A) → xs ≡ before ++ x ∷ after → All P xs → P x
All-split {A} P xs [] x after e all = All-head P x after (subst (λ (ys : List A). All P ys) e all)
All-split {A} P [] (y ∷ before) x after e all = absurd (no_split (y ∷ before) x after e)
All-split {A} P (z ∷ xs) (y ∷ before) x after e all = let tail : xs ≡ before ++ x ∷ after = cc in All-split P xs before x after tail (All-tail P z xs all)

pub find_all : {A : Type 0} (P : A → Type 0) (p : A → Bool) (xs : List A) (x : A) → All P xs → find p xs ≡ Some x → P x
find_all P p xs x all e = let f = found p xs x e in All-split P xs f.before x f.after f.are all
