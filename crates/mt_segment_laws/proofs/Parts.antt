-- Lists in two parts.
use Rattle.std.proofs.Common.{◌≡◌, ℕ, zero, suc, ◌+◌, ◌<◌, List, [], ◌∷◌, ◌++◌, length, slice_get, refl, ◌∙◌, ap, arith}

module _ {X : Type 0} where
  pub slice_get_left : (xs ys : List X) (i : ℕ) → i < length xs → slice_get (xs ++ ys) i ≡ slice_get xs i
  slice_get_left [] ys i l = absurd (omega arith)
  slice_get_left (x ∷ xs) ys zero l = refl
  slice_get_left (x ∷ xs) ys (suc i) l = slice_get_left xs ys i (omega arith)

  pub slice_get_right : (xs ys : List X) (i : ℕ) → slice_get (xs ++ ys) (length xs + i) ≡ slice_get ys i
  slice_get_right [] ys i = let e : 0 + i ≡ i = omega arith in ap (slice_get ys) e
  slice_get_right (x ∷ xs) ys i =
      let e : suc (length xs) + i ≡ suc (length xs + i) = omega arith in
      ap (slice_get (x ∷ xs ++ ys)) e ∙ slice_get_right xs ys i
