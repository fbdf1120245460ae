-- What is at a place of a list that grows at its end.
use Rattle.std.proofs.Common.{◌≡◌, ℕ, zero, suc, List, [], ◌∷◌, ◌++◌, length, slice_get, Some, refl, arith}

module _ {X : Type 0} where
  pub kept : (xs ys : List X) (k : ℕ) (x : X) → slice_get xs k ≡ Some x → slice_get (xs ++ ys) k ≡ Some x
  kept [] ys k x e = cc
  kept (y ∷ xs) ys zero x e = e
  kept (y ∷ xs) ys (suc k) x e = kept xs ys k x e

  pub pushed : (xs : List X) (x : X) (k : ℕ) → length xs ≡ k → slice_get (xs ++ x ∷ []) k ≡ Some x
  pushed [] x zero e = refl
  pushed [] x (suc k) e = absurd (omega arith)
  pushed (y ∷ xs) x zero e = absurd (omega arith)
  pushed (y ∷ xs) x (suc k) e = pushed xs x k (omega arith)
