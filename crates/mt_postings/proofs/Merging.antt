-- The merge of two ascending lists has the numbers of both, and is ascending.
use Rattle.std.proofs.Common.{ℕ, zero, suc, ◌≡◌, ◌+◌, ◌-◌, ◌<◌, ◌≤◌, ◌⊎◌, ◌↔◌, List, [], ◌∷◌, ◌++◌, length, drop, get_or, map, refl, sym, ap, ◌∙◌, subst, inl, inr, arith, append_assoc}
use Rattle.std.proofs.Common.{Bool, true, false, min, leb, Result, Ok, Err}
use Rattle.std.specs.Result.{IfOk}
use mir.Val.{bool_byte}
use Rattle.std.specs.List.{Contains}
use Rattle.std.proofs.lemmas.Bool.{cases_lt, cases_order, leb-true, leb-false}
use Rattle.std.proofs.lemmas.Bool.Decides.{nat_tests}
use Rattle.std.proofs.lemmas.List.{drop_more, drop_all, append-nil, get_or-append-add, get_or-map, length-append, length-map}
use Rattle.mt_store_spec.specs.Positions.{ArePositions}
use Rattle.mt_postings.specs.Merge.{merge}
use Rattle.mt_postings.proofs.Ascending.{From, from_start, positions_from}

-- a number stands in the list
abbrev pub Has : List ℕ → ℕ → Type 0
Has [] x = ⊥
Has (y ∷ ys) x = (y ≡ x) ⊎ Has ys x

contains_has : (ys : List ℕ) (x k : ℕ) → k < length ys → get_or ys k x ≡ x → Has ys x
contains_has [] x k l e = absurd (omega arith)
contains_has (y ∷ ys) x zero l e = inl e
contains_has (y ∷ ys) x (suc k) l e = inr (contains_has ys x k (omega arith) e)

has_contains : (ys : List ℕ) (x : ℕ) → Has ys x → Contains ys x
has_contains [] x h = absurd h
has_contains (y ∷ ys) x (inl e) = (0, omega arith, e)
has_contains (y ∷ ys) x (inr h) = let c = has_contains ys x h in (suc c.0, let l = c.1 in omega arith, c.2)

pub has_is : (ys : List ℕ) (x : ℕ) → Has ys x ↔ Contains ys x
has_is ys x = (has_contains ys x, λ c. contains_has ys x c.0 c.1 c.2)

-- one step, by the first numbers
pub merge_left : (most a b : ℕ) (l r : List ℕ) → a < b → merge (suc most) (a ∷ l) (b ∷ r) ≡ a ∷ merge most l (b ∷ r)
merge_left most a b l r h = grind (arith, nat_tests)

pub merge_right : (most a b : ℕ) (l r : List ℕ) → b < a → merge (suc most) (a ∷ l) (b ∷ r) ≡ b ∷ merge most (a ∷ l) r
merge_right most a b l r h = grind (arith, nat_tests)

pub merge_both : (most a b : ℕ) (l r : List ℕ) → a ≡ b → merge (suc most) (a ∷ l) (b ∷ r) ≡ a ∷ merge most l r
merge_both most a b l r h = grind (arith, nat_tests)

pub merge_nil : (most : ℕ) (l : List ℕ) → merge most l [] ≡ l
merge_nil most [] = refl
merge_nil most (a ∷ l) = refl

either : (most : ℕ) (l r : List ℕ) (x : ℕ) → length l + length r ≤ most → Has (merge most l r) x → Has l x ⊎ Has r x
either most [] r x e h = inr h
either most (a ∷ l) [] x e h = inl h
either zero (a ∷ l) (b ∷ r) x e h = absurd (omega arith)
either (suc most) (a ∷ l) (b ∷ r) x e h =
    elim (cases_order a b) [
      | inl s ↦ elim (subst (λ m. Has m x) (merge_both most a b l r s) h) [
        | inl f ↦ inl (inl f)
        | inr t ↦ elim (either most l r x (omega arith) t) [ inl u ↦ inl (inr u) | inr u ↦ inr (inr u) ]
      ]
      | inr o ↦ elim o [
        | inl s ↦ elim (subst (λ m. Has m x) (merge_left most a b l r s) h) [
          | inl f ↦ inl (inl f)
          | inr t ↦ elim (either most l (b ∷ r) x (omega arith) t) [ inl u ↦ inl (inr u) | inr u ↦ inr u ]
        ]
        | inr s ↦ elim (subst (λ m. Has m x) (merge_right most a b l r s) h) [
          | inl f ↦ inr (inl f)
          | inr t ↦ elim (either most (a ∷ l) r x (omega arith) t) [ inl u ↦ inl u | inr u ↦ inr (inr u) ]
        ]
      ]
    ]

of_left : (most : ℕ) (l r : List ℕ) (x : ℕ) → length l + length r ≤ most → Has l x → Has (merge most l r) x
of_left most [] r x e h = absurd h
of_left most (a ∷ l) [] x e h = h
of_left zero (a ∷ l) (b ∷ r) x e h = absurd (omega arith)
of_left (suc most) (a ∷ l) (b ∷ r) x e h =
    elim (cases_order a b) [
      | inl s ↦ subst (λ m. Has m x) (sym (merge_both most a b l r s)) (elim h [ inl f ↦ inl f | inr t ↦ inr (of_left most l r x (omega arith) t) ])
      | inr o ↦ elim o [
        | inl s ↦ subst (λ m. Has m x) (sym (merge_left most a b l r s)) (elim h [ inl f ↦ inl f | inr t ↦ inr (of_left most l (b ∷ r) x (omega arith) t) ])
        | inr s ↦ subst (λ m. Has m x) (sym (merge_right most a b l r s)) (inr (of_left most (a ∷ l) r x (omega arith) h))
      ]
    ]

of_right : (most : ℕ) (l r : List ℕ) (x : ℕ) → length l + length r ≤ most → Has r x → Has (merge most l r) x
of_right most [] r x e h = h
of_right most (a ∷ l) [] x e h = absurd h
of_right zero (a ∷ l) (b ∷ r) x e h = absurd (omega arith)
of_right (suc most) (a ∷ l) (b ∷ r) x e h =
    elim (cases_order a b) [
      | inl s ↦ subst (λ m. Has m x) (sym (merge_both most a b l r s)) (elim h [ inl f ↦ inl (s ∙ f) | inr t ↦ inr (of_right most l r x (omega arith) t) ])
      | inr o ↦ elim o [
        | inl s ↦ subst (λ m. Has m x) (sym (merge_left most a b l r s)) (inr (of_right most l (b ∷ r) x (omega arith) h))
        | inr s ↦ subst (λ m. Has m x) (sym (merge_right most a b l r s)) (elim h [ inl f ↦ inl f | inr t ↦ inr (of_right most (a ∷ l) r x (omega arith) t) ])
      ]
    ]

pub merge_members : (l r : List ℕ) (x : ℕ) → Contains (merge (length l + length r) l r) x ↔ (Contains l x ⊎ Contains r x)
merge_members l r x =
    let m = length l + length r in (
      λ c. elim (either m l r x (omega arith) ((has_is (merge m l r) x).1 c)) [ inl h ↦ inl ((has_is l x).0 h) | inr h ↦ inr ((has_is r x).0 h) ],
      λ c. (has_is (merge m l r) x).0 (elim c [ inl h ↦ of_left m l r x (omega arith) ((has_is l x).1 h) | inr h ↦ of_right m l r x (omega arith) ((has_is r x).1 h) ]),
    )

-- and of what was kept of it
pub union_members : {E : Type 0} (r : Result (List ℕ) E) (left right kept : List ℕ) → kept ≡ merge (length left + length right) left right → IfOk r (λ p. p ≡ kept) → IfOk r (λ all. (p : ℕ) → Contains all p ↔ (Contains left p ⊎ Contains right p))
union_members (Ok all) left right kept e h = λ p. subst (λ x. Contains x p ↔ (Contains left p ⊎ Contains right p)) (sym (h ∙ e)) (merge_members left right p)
union_members (Err x) left right kept e h = tt

merge_from : (most least : ℕ) (l r : List ℕ) → length l + length r ≤ most → From least l → From least r → From least (merge most l r)
merge_from most least [] r e f g = g
merge_from most least (a ∷ l) [] e f g = f
merge_from zero least (a ∷ l) (b ∷ r) e f g = absurd (omega arith)
merge_from (suc most) least (a ∷ l) (b ∷ r) e f g =
    elim (cases_order a b) [
      | inl s ↦ subst (From least) (sym (merge_both most a b l r s)) (f.0, f.1, merge_from most (a + 1) l r (omega arith) f.2 (subst (λ x. From (x + 1) r) (sym s) g.2))
      | inr o ↦ elim o [
        | inl s ↦ subst (From least) (sym (merge_left most a b l r s)) (f.0, f.1, merge_from most (a + 1) l (b ∷ r) (omega arith) f.2 (omega arith, g.1, g.2))
        | inr s ↦ subst (From least) (sym (merge_right most a b l r s)) (g.0, g.1, merge_from most (b + 1) (a ∷ l) r (omega arith) (omega arith, f.1, f.2) g.2)
      ]
    ]

pub merge_positions : (l r : List ℕ) → ArePositions l → ArePositions r → ArePositions (merge (length l + length r) l r)
merge_positions l r a b = positions_from 0 (merge (length l + length r) l r) (merge_from (length l + length r) 0 l r (omega arith) (from_start l a) (from_start r b))

-- What is merged so far, with what is left, gives the whole merge.
pub record Merged (all left right : List ℕ) (i j : ℕ) : Type 0 where
  pub most : ℕ
  pub enough : (length left - i) + (length right - j) ≤ most
  pub same : all ++ merge most (drop i left) (drop j right) ≡ merge (length left + length right) left right

pub merged_none : (left right : List ℕ) → Merged [] left right 0 0
merged_none left right = record { most = length left + length right; enough = omega arith; same = refl }

-- one number more, where the first is less, the second is, or both are the same
more_left : (all left right : List ℕ) (i j : ℕ) → i < length left → j < length right → get_or left i 0 < get_or right j 0 → Merged all left right i j → Merged (all ++ get_or left i 0 ∷ []) left right (i + 1) j
more_left all left right i j li lj s m = with_most m.most m.enough m.same
  where
    with_most : (most : ℕ) → (length left - i) + (length right - j) ≤ most → all ++ merge most (drop i left) (drop j right) ≡ merge (length left + length right) left right → Merged (all ++ get_or left i 0 ∷ []) left right (i + 1) j
    with_most zero e h = absurd (omega arith)
    with_most (suc most) e h =
        let dl = drop_more left i 0 li in
        let dr = drop_more right j 0 lj in
        let step : merge (suc most) (drop i left) (drop j right) ≡ get_or left i 0 ∷ merge most (drop (i + 1) left) (drop j right) = rw (dl, dr) (merge_left most (get_or left i 0) (get_or right j 0) (drop (i + 1) left) (drop (j + 1) right) s) in
        record { most = most; enough = omega arith; same = append_assoc all (get_or left i 0 ∷ []) (merge most (drop (i + 1) left) (drop j right)) ∙ ap (λ x. all ++ x) (sym step) ∙ h }

more_right : (all left right : List ℕ) (i j : ℕ) → i < length left → j < length right → get_or right j 0 < get_or left i 0 → Merged all left right i j → Merged (all ++ get_or right j 0 ∷ []) left right i (j + 1)
more_right all left right i j li lj s m = with_most m.most m.enough m.same
  where
    with_most : (most : ℕ) → (length left - i) + (length right - j) ≤ most → all ++ merge most (drop i left) (drop j right) ≡ merge (length left + length right) left right → Merged (all ++ get_or right j 0 ∷ []) left right i (j + 1)
    with_most zero e h = absurd (omega arith)
    with_most (suc most) e h =
        let dl = drop_more left i 0 li in
        let dr = drop_more right j 0 lj in
        let step : merge (suc most) (drop i left) (drop j right) ≡ get_or right j 0 ∷ merge most (drop i left) (drop (j + 1) right) = rw (dl, dr) (merge_right most (get_or left i 0) (get_or right j 0) (drop (i + 1) left) (drop (j + 1) right) s) in
        record { most = most; enough = omega arith; same = append_assoc all (get_or right j 0 ∷ []) (merge most (drop i left) (drop (j + 1) right)) ∙ ap (λ x. all ++ x) (sym step) ∙ h }

more_both : (all left right : List ℕ) (i j : ℕ) → i < length left → j < length right → get_or left i 0 ≡ get_or right j 0 → Merged all left right i j → Merged (all ++ get_or left i 0 ∷ []) left right (i + 1) (j + 1)
more_both all left right i j li lj s m = with_most m.most m.enough m.same
  where
    with_most : (most : ℕ) → (length left - i) + (length right - j) ≤ most → all ++ merge most (drop i left) (drop j right) ≡ merge (length left + length right) left right → Merged (all ++ get_or left i 0 ∷ []) left right (i + 1) (j + 1)
    with_most zero e h = absurd (omega arith)
    with_most (suc most) e h =
        let dl = drop_more left i 0 li in
        let dr = drop_more right j 0 lj in
        let step : merge (suc most) (drop i left) (drop j right) ≡ get_or left i 0 ∷ merge most (drop (i + 1) left) (drop (j + 1) right) = rw (dl, dr) (merge_both most (get_or left i 0) (get_or right j 0) (drop (i + 1) left) (drop (j + 1) right) s) in
        record { most = most; enough = omega arith; same = append_assoc all (get_or left i 0 ∷ []) (merge most (drop (i + 1) left) (drop (j + 1) right)) ∙ ap (λ x. all ++ x) (sym step) ∙ h }

pub merged_more : (all left right : List ℕ) (i j : ℕ) → i < length left → j < length right → Merged all left right i j → (x y : Bool) → x ≡ leb (get_or left i 0) (get_or right j 0) → y ≡ leb (get_or right j 0) (get_or left i 0) → (i + bool_byte x ≤ length left) × (j + bool_byte y ≤ length right) × (i + j + 1 ≤ i + bool_byte x + (j + bool_byte y)) × Merged (all ++ min (get_or left i 0) (get_or right j 0) ∷ []) left right (i + bool_byte x) (j + bool_byte y)
merged_more all left right i j li lj m true true ex ey =
    let a = leb-true (get_or left i 0) (get_or right j 0) (sym ex) in
    let b = leb-true (get_or right j 0) (get_or left i 0) (sym ey) in
    let least : min (get_or left i 0) (get_or right j 0) ≡ get_or left i 0 = omega arith in
    (omega arith, omega arith, omega arith, subst (λ x. Merged (all ++ x ∷ []) left right (i + 1) (j + 1)) (sym least) (more_both all left right i j li lj (omega arith) m))
merged_more all left right i j li lj m true false ex ey =
    let b = leb-false (get_or right j 0) (get_or left i 0) (sym ey) in
    let least : min (get_or left i 0) (get_or right j 0) ≡ get_or left i 0 = omega arith in
    let none : j ≡ j + 0 = omega arith in
    (omega arith, omega arith, omega arith, subst (λ k. Merged (all ++ min (get_or left i 0) (get_or right j 0) ∷ []) left right (i + 1) k) none (subst (λ x. Merged (all ++ x ∷ []) left right (i + 1) j) (sym least) (more_left all left right i j li lj b m)))
merged_more all left right i j li lj m false true ex ey =
    let a = leb-false (get_or left i 0) (get_or right j 0) (sym ex) in
    let least : min (get_or left i 0) (get_or right j 0) ≡ get_or right j 0 = omega arith in
    let none : i ≡ i + 0 = omega arith in
    (omega arith, omega arith, omega arith, subst (λ k. Merged (all ++ min (get_or left i 0) (get_or right j 0) ∷ []) left right k (j + 1)) none (subst (λ x. Merged (all ++ x ∷ []) left right i (j + 1)) (sym least) (more_right all left right i j li lj a m)))
merged_more all left right i j li lj m false false ex ey =
    let a = leb-false (get_or left i 0) (get_or right j 0) (sym ex) in
    let b = leb-false (get_or right j 0) (get_or left i 0) (sym ey) in
    absurd (omega arith)

-- where one list is used up, the other follows
pub merged_end : (all left right : List ℕ) (i j : ℕ) → (length left ≤ i) ⊎ (length right ≤ j) → Merged all left right i j → all ++ drop i left ++ drop j right ≡ merge (length left + length right) left right
merged_end all left right i j (inl e) m =
    let none : drop i left ≡ [] = drop_all i left e in
    ap (λ x. all ++ x ++ drop j right) none ∙ ap (λ x. x ++ drop j right) (append-nil all) ∙ ap (λ x. all ++ merge m.most x (drop j right)) (sym none) ∙ m.same
merged_end all left right i j (inr e) m =
    let none : drop j right ≡ [] = drop_all j right e in
    ap (λ x. all ++ drop i left ++ x) none ∙ append-nil (all ++ drop i left) ∙ ap (λ x. all ++ x) (sym (merge_nil m.most (drop i left))) ∙ ap (λ x. all ++ merge m.most (drop i left) x) (sym none) ∙ m.same

-- in range where both lists together are
pub shifted_fits : (shift : ℕ) (held part : List ℕ) → ArePositions (held ++ map (λ p. p + shift) part) → (k d : ℕ) → k < length part → get_or part k d + shift < 4294967296
shifted_fits shift held part a k d l =
    let n = length-append held (map (λ p. p + shift) part) in
    let m = length-map part (λ p. p + shift) in
    let h = a.in_range (length held + k) 0 (omega arith) in
    let e : get_or (held ++ map (λ p. p + shift) part) (length held + k) 0 ≡ get_or (map (λ p. p + shift) part) k 0 = get_or-append-add held (map (λ p. p + shift) part) k 0 in
    let f : get_or (map (λ p. p + shift) part) k 0 ≡ get_or part k d + shift = get_or-map (λ p. p + shift) part k d 0 l in
    omega arith

-- a position of the list is no less than its least
has_least : (least : ℕ) (ps : List ℕ) (x : ℕ) → From least ps → Has ps x → least ≤ x
has_least least [] x f h = absurd h
has_least least (p ∷ ps) x f (inl e) = let l = f.0 in omega arith
has_least least (p ∷ ps) x f (inr h) = let l = f.0 in let r = has_least (p + 1) ps x f.2 h in omega arith

later_has : (p x : ℕ) (b : List ℕ) → p < x → Has (p ∷ b) x → Has b x
later_has p x b l (inl e) = absurd (omega arith)
later_has p x b l (inr h) = h

told : (least : ℕ) (a b : List ℕ) → From least a → From least b → ((x : ℕ) → Has a x → Has b x) → ((x : ℕ) → Has b x → Has a x) → a ≡ b
told least [] [] f g to fro = refl
told least [] (y ∷ b) f g to fro = absurd (fro y (inl refl))
told least (x ∷ a) [] f g to fro = absurd (to x (inl refl))
told least (x ∷ a) (y ∷ b) f g to fro =
    let not_above : x ≤ y = elim (cases_lt y x) [ inl l ↦ (let h : (x ≡ y) ⊎ (x + 1 ≤ y) = elim (fro y (inl refl)) [ inl e ↦ inl e | inr h ↦ inr (has_least (x + 1) a y f.2 h) ] in bound x y h) | inr g ↦ g ] in
    let not_below : y ≤ x = elim (cases_lt x y) [ inl l ↦ (let h : (y ≡ x) ⊎ (y + 1 ≤ x) = elim (to x (inl refl)) [ inl e ↦ inl e | inr h ↦ inr (has_least (y + 1) b x g.2 h) ] in bound y x h) | inr g ↦ g ] in
    let same : x ≡ y = omega arith in
    let g' : From (x + 1) b = subst (λ z. From (z + 1) b) (sym same) g.2 in
    let rest : a ≡ b = told (x + 1) a b f.2 g'
    (λ z h. later_has y z b (let k = has_least (x + 1) a z f.2 h in omega arith) (to z (inr h)))
    (λ z h. later_has x z a (let k = has_least (x + 1) b z g' h in omega arith) (fro z (inr h))) in
    cc
  where
    bound : (x y : ℕ) → (x ≡ y) ⊎ (x + 1 ≤ y) → x ≤ y
    bound x y (inl e) = omega arith
    bound x y (inr l) = omega arith

pub told_by_members : (a b : List ℕ) → ArePositions a → ArePositions b → ((p : ℕ) → Contains a p ↔ Contains b p) → a ≡ b
told_by_members a b f g same =
    told 0 a b (from_start a f) (from_start b g)
    (λ x h. (has_is b x).1 ((same x).0 ((has_is a x).0 h)))
    (λ x h. (has_is a x).1 ((same x).1 ((has_is b x).0 h)))
