-- Lists, and lists that are made of the parts of their items, as far as a loop has gone.
use Rattle.std.proofs.Common.{◌≡◌, ℕ, zero, suc, ◌+◌, ◌-◌, ◌<◌, ◌≤◌, ◌⊎◌, inl, inr, List, [], ◌∷◌, ◌++◌, length, length-append, map, take, drop, set, get_or, refl, sym, ◌∙◌, ap, subst, append_assoc, arith}
use Rattle.std.specs.List.{All, AllZip, Contains, flat_map, slice_range}
use Rattle.std.proofs.lemmas.Bool.{cases_lt}
use Rattle.std.proofs.lemmas.Grind.{flat_map-append}
use Rattle.std.proofs.lemmas.List.{append-nil, drop-take, get_or_append_left, get_or-append-add, get_or-map, length-map, map-append, take_all, take_more, take_more_set}
use Rattle.std.proofs.lemmas.Slice.Zip.{all_zipped_more}

-- ---- what stands in a list

module _ {X : Type 0} where
  pub contains_left : (xs ys : List X) (x : X) → Contains xs x → Contains (xs ++ ys) x
  contains_left xs ys x (k, l, e) = (k, omega (arith, l, length-append xs ys), get_or_append_left xs ys x k l ∙ e)

  pub contains_right : (xs ys : List X) (x : X) → Contains ys x → Contains (xs ++ ys) x
  contains_right xs ys x (k, l, e) = (length xs + k, omega (arith, l, length-append xs ys), get_or-append-add xs ys k x ∙ e)

  pub contains_cases : (xs ys : List X) (x : X) → Contains (xs ++ ys) x → Contains xs x ⊎ Contains ys x
  contains_cases xs ys x (k, l, e) = by (cases_lt k (length xs))
    where
      by : (k < length xs) ⊎ (length xs ≤ k) → Contains xs x ⊎ Contains ys x
      by (inl low) = inl (k, low, sym (get_or_append_left xs ys x k low) ∙ e)
      by (inr high) =
          let is : length xs + (k - length xs) ≡ k = omega arith in
          inr (k - length xs, omega (arith, l, high, length-append xs ys), sym (get_or-append-add xs ys (k - length xs) x) ∙ ap (λ n. get_or (xs ++ ys) n x) is ∙ e)

  pub only_one : (x y : X) → Contains (x ∷ []) y → y ≡ x
  only_one x y (zero, l, e) = sym e
  only_one x y (suc k, l, e) = absurd (omega (arith, l))

  pub contains_one : (x : X) → Contains (x ∷ []) x
  contains_one x = (0, omega arith, refl)

  pub contains_none : (x : X) → Contains [] x → ⊥
  contains_none x (k, l, e) = omega (arith, l)

  pub all_at : (P : X → Type 0) (xs : List X) (i : ℕ) (x : X) → All P xs → i < length xs → x ≡ get_or xs i x → P x
  all_at P xs i x all l e = subst P (sym e) (all i x l)

  pub contains_at : (xs : List X) (i : ℕ) (x : X) → i < length xs → x ≡ get_or xs i x → Contains xs x
  contains_at xs i x l e = (i, l, sym e)

  pub one_more : (xs : List X) (i : ℕ) (x : X) → i < length xs → x ≡ get_or xs i x → take (i + 1) xs ≡ take i xs ++ x ∷ []
  one_more xs i x l e = take_more xs i x l ∙ ap (λ y. take i xs ++ y ∷ []) (sym e)

  -- what stands among one item more
  pub contains_more : (xs : List X) (i : ℕ) (x y : X) → i < length xs → x ≡ get_or xs i x → Contains (take (i + 1) xs) y → Contains (take i xs) y ⊎ (y ≡ x)
  contains_more xs i x y l e c = by (contains_cases (take i xs) (x ∷ []) y (subst (λ zs. Contains zs y) (one_more xs i x l e) c))
    where
      by : Contains (take i xs) y ⊎ Contains (x ∷ []) y → Contains (take i xs) y ⊎ (y ≡ x)
      by (inl c) = inl c
      by (inr c) = inr (only_one x y c)

-- ---- two lists that go together

module _ {X Y : Type 0} (R : X → Y → Type 0) where
  pub zipped_at : (xs : List X) (ys : List Y) (i : ℕ) (d : X) (e : Y) → AllZip R xs ys → i < length xs → R (get_or xs i d) (get_or ys i e)
  zipped_at [] [] i d e all l = absurd (omega (arith, l))
  zipped_at [] (y ∷ ys) i d e all l = absurd all
  zipped_at (x ∷ xs) [] i d e all l = absurd all
  zipped_at (x ∷ xs) (y ∷ ys) zero d e all l = all.0
  zipped_at (x ∷ xs) (y ∷ ys) (suc i) d e all l = zipped_at xs ys i d e all.1 (omega (arith, l))

  pub as_long : (xs : List X) (ys : List Y) → AllZip R xs ys → length ys ≡ length xs
  as_long [] [] all = omega arith
  as_long [] (y ∷ ys) all = absurd all
  as_long (x ∷ xs) [] all = absurd all
  as_long (x ∷ xs) (y ∷ ys) all = ap suc (as_long xs ys all.1)

  pub both_at : (xs : List X) (ys : List Y) (i : ℕ) (x : X) (y : Y) → AllZip R xs ys → i < length xs → x ≡ get_or xs i x → y ≡ get_or ys i y → R x y
  both_at xs ys i x y all l e f = subst (λ v. R x v) (sym f) (subst (λ u. R u (get_or ys i y)) (sym e) (zipped_at xs ys i x y all l))

  -- one pair more
  pub pair_more : (xs : List X) (ys new : List Y) (i : ℕ) (x : X) (y : Y) → i < length xs → x ≡ get_or xs i x → new ≡ ys ++ y ∷ [] → AllZip R (take i xs) ys → R x y → AllZip R (take (i + 1) xs) new
  pair_more xs ys new i x y l e is all one = subst (λ zs. AllZip R zs new) (sym (one_more xs i x l e)) (subst (λ zs. AllZip R (take i xs ++ x ∷ []) zs) (sym is) (all_zipped_more R (take i xs) ys x y all one))

  -- one more that stands behind whatever others do
  pub behind_more : (before xs : List X) (ys new : List Y) (i : ℕ) (x : X) → i < length xs → x ≡ get_or xs i x → ((others : List X) → AllZip R others ys → AllZip R (others ++ x ∷ []) new) → AllZip R (before ++ take i xs) ys → AllZip R (before ++ take (i + 1) xs) new
  behind_more before xs ys new i x l e adds all =
      subst (λ zs. AllZip R zs new) (append_assoc before (take i xs) (x ∷ []) ∙ ap (λ zs. before ++ zs) (sym (one_more xs i x l e))) (adds (before ++ take i xs) all)

  -- one that is put behind so many
  pub one_put : (before : List X) (x : X) (ys : List Y) (count : ℕ) (y : Y) → count < length ys → R x y → AllZip R before (take count ys) → AllZip R (before ++ x ∷ []) (take (count + 1) (set ys count y))
  one_put before x ys count y l one all = rw (take_more_set ys count y l) (all_zipped_more R before (take count ys) x y all one)

  -- Two lists go together where each is joined of two, of which the first ones are of one length: so do the parts.
  pub both_parts : (xs us : List X) (ys : List Y) → AllZip R (xs ++ us) ys → AllZip R xs (take (length xs) ys) × AllZip R us (drop (length xs) ys)
  both_parts [] us ys all = (tt, all)
  both_parts (x ∷ xs) us [] all = absurd all
  both_parts (x ∷ xs) us (y ∷ ys) all = let more = both_parts xs us ys all.1 in ((all.0, more.0), more.1)

-- ---- lists that are mapped

module _ {X Y : Type 0} (f : X → Y) where
  pub mapped_at : (xs : List X) (i : ℕ) (x : X) (ys : List Y) (d : Y) → ys ≡ map f xs → i < length xs → x ≡ get_or xs i x → get_or ys i d ≡ f x
  mapped_at xs i x ys d is l e = ap (λ zs. get_or zs i d) is ∙ get_or-map f xs i x d l ∙ ap f (sym e)

  pub mapped_more : (xs : List X) (i : ℕ) (x : X) (old new : List Y) → i < length xs → x ≡ get_or xs i x → old ≡ map f (take i xs) → new ≡ old ++ f x ∷ [] → new ≡ map f (take (i + 1) xs)
  mapped_more xs i x old new l e was is = is ∙ ap (λ ys. ys ++ f x ∷ []) was ∙ sym (map-append f (take i xs) (x ∷ [])) ∙ ap (map f) (sym (one_more xs i x l e))

  pub mapped_whole : (xs : List X) (i : ℕ) (ys : List Y) → length xs ≤ i → ys ≡ map f (take i xs) → ys ≡ map f xs
  mapped_whole xs i ys l is = is ∙ ap (map f) (take_all i xs l)

  pub contains_mapped : (xs : List X) (x : X) → Contains xs x → Contains (map f xs) (f x)
  contains_mapped xs x (k, l, e) = (k, omega (arith, l, length-map xs f), get_or-map f xs k x (f x) l ∙ ap f e)

  pub record IsOf (xs : List X) (y : Y) : Type 0 where
    pub x : X
    pub there : Contains xs x
    pub is : f x ≡ y

  pub mapped_has : (xs : List X) (y : Y) → Contains (map f xs) y → IsOf xs y
  mapped_has [] y c = absurd (contains_none y c)
  mapped_has (x ∷ xs) y (zero, l, e) = record { x = x; there = (0, omega arith, refl); is = e }
  mapped_has (x ∷ xs) y (suc k, l, e) =
      let more = mapped_has xs y (k, omega (arith, l), e) in
      record { x = more.x; there = contains_right (x ∷ []) xs more.x more.there; is = more.is }

-- ---- lists that are made of parts

module _ {X Y : Type 0} (f : X → List Y) where
  pub record IsInPart (xs : List X) (y : Y) : Type 0 where
    pub x : X
    pub there : Contains xs x
    pub its : Contains (f x) y

  pub in_part : (xs : List X) (y : Y) → Contains (flat_map f xs) y → IsInPart xs y
  in_part [] y c = absurd (contains_none y c)
  in_part (x ∷ xs) y c = by (contains_cases (f x) (flat_map f xs) y c) (in_part xs y)
    where
      by : Contains (f x) y ⊎ Contains (flat_map f xs) y → (Contains (flat_map f xs) y → IsInPart xs y) → IsInPart (x ∷ xs) y
      by (inl c) more = record { x = x; there = (0, omega arith, refl); its = c }
      by (inr c) more = let part = more c in record { x = part.x; there = contains_right (x ∷ []) xs part.x part.there; its = part.its }

  pub part_in : (xs : List X) (x : X) (y : Y) → Contains xs x → Contains (f x) y → Contains (flat_map f xs) y
  part_in [] x y c d = absurd (contains_none x c)
  part_in (z ∷ xs) x y (zero, l, e) d = contains_left (f z) (flat_map f xs) y (subst (λ w. Contains (f w) y) (sym e) d)
  part_in (z ∷ xs) x y (suc k, l, e) d = contains_right (f z) (flat_map f xs) y (part_in xs x y (k, omega (arith, l), e) d)

  pub parts_more : (xs : List X) (i : ℕ) (x : X) → i < length xs → x ≡ get_or xs i x → flat_map f (take (i + 1) xs) ≡ flat_map f (take i xs) ++ f x
  parts_more xs i x l e = ap (flat_map f) (one_more xs i x l e) ∙ flat_map-append f (take i xs) (x ∷ []) ∙ ap (λ ys. flat_map f (take i xs) ++ ys) (append-nil (f x))

  pub parts_whole : (xs : List X) (i : ℕ) → length xs ≤ i → flat_map f (take i xs) ≡ flat_map f xs
  parts_whole xs i l = ap (flat_map f) (take_all i xs l)

  -- the parts before an item, its own, and those behind
  pub record Parts (xs : List X) (i : ℕ) (x : X) : Type 0 where
    pub behind : List Y
    pub split : flat_map f xs ≡ flat_map f (take i xs) ++ f x ++ behind

  pub parts_at : (xs : List X) (i : ℕ) (x : X) → i < length xs → x ≡ get_or xs i x → Parts xs i x
  parts_at [] i x l e = absurd (omega (arith, l))
  parts_at (z ∷ xs) zero x l e = record { behind = flat_map f xs; split = ap (λ w. f w ++ flat_map f xs) (sym e) }
  parts_at (z ∷ xs) (suc i) x l e =
      let more = parts_at xs i x (omega (arith, l)) e in
      record {
        behind = more.behind;
        split =
            ap (λ ys. f z ++ ys) more.split
            ∙ sym (append_assoc (f z) (flat_map f (take i xs) ++ f x) more.behind)
            ∙ ap (λ ys. ys ++ more.behind) (sym (append_assoc (f z) (flat_map f (take i xs)) (f x)));
      }

  pub part_fits : (xs : List X) (i : ℕ) (x : X) → i < length xs → x ≡ get_or xs i x → length (flat_map f (take i xs)) + length (f x) ≤ length (flat_map f xs)
  part_fits xs i x l e =
      let parts = parts_at xs i x l e in
      omega (arith, ap length parts.split, length-append (flat_map f (take i xs) ++ f x) parts.behind, length-append (flat_map f (take i xs)) (f x))

-- the parts of a list that goes together with such a one
module _ {X Y Z : Type 0} (f : X → List Y) (R : Y → Z → Type 0) where
  pub part_zipped : (xs : List X) (zs part : List Z) (i from : ℕ) (x : X) → i < length xs → x ≡ get_or xs i x → from ≡ length (flat_map f (take i xs)) → part ≡ slice_range zs from (from + length (f x)) → AllZip R (flat_map f xs) zs → AllZip R (f x) part
  part_zipped xs zs part i from x l e at is all =
      let before = flat_map f (take i xs) in
      let parts = parts_at f xs i x l e in
      let joined = both_parts R (before ++ f x) parts.behind zs (subst (λ ys. AllZip R ys zs) parts.split all) in
      let own = (both_parts R before (f x) (take (length (before ++ f x)) zs) joined.0).1 in
      let rest : length (f x) ≡ length before + length (f x) - length before = omega arith in
      let cut : drop (length before) (take (length (before ++ f x)) zs) ≡ part =
      ap (λ n. drop (length before) (take n zs)) (length-append before (f x)) ∙ drop-take (length before) (length (f x)) zs ∙ ap (λ n. take n (drop (length before) zs)) rest ∙ ap (λ n. slice_range zs n (n + length (f x))) (sym at) ∙ sym is in
      subst (AllZip R (f x)) cut own

-- parts of parts
pub parts_of_parts : {X Y Z : Type 0} (f : Y → List Z) (g : X → List Y) (xs : List X) → flat_map f (flat_map g xs) ≡ flat_map (λ x. flat_map f (g x)) xs
parts_of_parts f g [] = refl
parts_of_parts f g (x ∷ xs) = flat_map-append f (g x) (flat_map g xs) ∙ ap (λ ys. flat_map f (g x) ++ ys) (parts_of_parts f g xs)
