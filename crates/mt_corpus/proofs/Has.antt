-- What stands in a list, at some place.
use Rattle.std.proofs.Common.{◌≡◌, ℕ, zero, suc, ◌+◌, ◌-◌, ◌<◌, ◌≤◌, List, [], ◌∷◌, ◌++◌, length, get_or, slice_get, Some, refl, sym, ◌∙◌, ap, subst, arith, ◌⊎◌, inl, inr}
use Rattle.std.specs.List.{All, Any, flat_map}
use Rattle.std.proofs.lemmas.Bool.{cases_lt}
use Rattle.std.proofs.lemmas.Option.{same_Some, slice_get-get_or, slice_get_within, get_or_from_slice_get}

pub slice_get_left : {X : Type 0} (xs ys : List X) (k : ℕ) → k < length xs → slice_get (xs ++ ys) k ≡ slice_get xs k
slice_get_left [] ys k l = absurd (omega arith)
slice_get_left (x ∷ xs) ys zero l = refl
slice_get_left (x ∷ xs) ys (suc k) l = slice_get_left xs ys k (omega arith)

pub slice_get_right : {X : Type 0} (xs ys : List X) (k : ℕ) → slice_get (xs ++ ys) (length xs + k) ≡ slice_get ys k
slice_get_right [] ys k = let e : 0 + k ≡ k = omega arith in ap (slice_get ys) e
slice_get_right (x ∷ xs) ys k = let e : suc (length xs) + k ≡ suc (length xs + k) = omega arith in ap (slice_get (x ∷ (xs ++ ys))) e ∙ slice_get_right xs ys k

pub record Has {X : Type 0} (xs : List X) (x : X) : Type 0 where
  pub at : ℕ
  pub there : slice_get xs at ≡ Some x

module _ {X : Type 0} where
  pub has_left : (xs ys : List X) (x : X) → Has xs x → Has (xs ++ ys) x
  has_left xs ys x h = record { at = h.at; there = slice_get_left xs ys h.at (slice_get_within xs h.at x h.there) ∙ h.there }

  pub has_right : (xs ys : List X) (x : X) → Has ys x → Has (xs ++ ys) x
  has_right xs ys x h = record { at = length xs + h.at; there = slice_get_right xs ys h.at ∙ h.there }

  pub has_cases : (xs ys : List X) (x : X) → Has (xs ++ ys) x → Has xs x ⊎ Has ys x
  has_cases xs ys x h = by (cases_lt h.at (length xs))
    where
      by : (h.at < length xs) ⊎ (length xs ≤ h.at) → Has xs x ⊎ Has ys x
      by (inl l) = inl (record { at = h.at; there = sym (slice_get_left xs ys h.at l) ∙ h.there })
      by (inr l) =
          let e : length xs + (h.at - length xs) ≡ h.at = omega arith in
          inr (record { at = h.at - length xs; there = sym (slice_get_right xs ys (h.at - length xs)) ∙ ap (slice_get (xs ++ ys)) e ∙ h.there })

  pub has_any : (P : X → Type 0) (xs : List X) (x : X) → Has xs x → P x → Any P xs
  has_any P xs x h p = (h.at, x, slice_get_within xs h.at x h.there, get_or_from_slice_get xs h.at x x h.there, p)

  pub any_has : (P : X → Type 0) (xs : List X) → Any P xs → (x : X) × Has xs x × P x
  any_has P xs (k, x, l, e, p) = (x, record { at = k; there = slice_get-get_or xs k x l ∙ ap Some e }, p)

  pub all_has : (P : X → Type 0) (xs : List X) (x : X) → All P xs → Has xs x → P x
  all_has P xs x all h = subst P (get_or_from_slice_get xs h.at x x h.there) (all h.at x (slice_get_within xs h.at x h.there))

  pub all_from_has : (P : X → Type 0) (xs : List X) → ((x : X) → Has xs x → P x) → All P xs
  all_from_has P xs each = λ k d l. each (get_or xs k d) (record { at = k; there = slice_get-get_or xs k d l })

-- what stands in the parts of a list
module _ {X Y : Type 0} (f : X → List Y) where
  pub has_part : (xs : List X) (y : Y) → Has (flat_map f xs) y → (x : X) × Has xs x × Has (f x) y
  has_part [] y h = let e = h.there in cc
  has_part (x ∷ xs) y h = by (has_cases (f x) (flat_map f xs) y h) (λ g. has_part xs y g)
    where
      by : Has (f x) y ⊎ Has (flat_map f xs) y → (Has (flat_map f xs) y → (z : X) × Has xs z × Has (f z) y) → (z : X) × Has (x ∷ xs) z × Has (f z) y
      by (inl g) more = (x, record { at = 0; there = refl }, g)
      by (inr g) more = let (z, there, its) = more g in (z, record { at = suc there.at; there = there.there }, its)

  part_at : (xs : List X) (x : X) (y : Y) (k : ℕ) → slice_get xs k ≡ Some x → Has (f x) y → Has (flat_map f xs) y
  part_at [] x y k e h = cc
  part_at (z ∷ xs) x y zero e h = has_left (f z) (flat_map f xs) y (subst (λ (w : X). Has (f w) y) (sym (same_Some z x e)) h)
  part_at (z ∷ xs) x y (suc k) e h = has_right (f z) (flat_map f xs) y (part_at xs x y k e h)

  pub part_has : (xs : List X) (x : X) (y : Y) → Has xs x → Has (f x) y → Has (flat_map f xs) y
  part_has xs x y h g = part_at xs x y h.at h.there g
