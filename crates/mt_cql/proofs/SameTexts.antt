-- Two texts are equal where the trees that stand for them are.
use Rattle.std.proofs.Common.{◌≡◌, ℕ, nat_eq, List, [], ◌∷◌, refl, ap}
use Rattle.std.specs.Prelude.{◌&&◌}
use Rattle.std.specs.Cmp.Lexicographic.{pointwise}
use Rattle.mt_cql.specs.Codes.{text_tree}
use Rattle.mt_cql.specs.Same.{same_trees}

pub texts_alike : (xs ys : List ℕ) → pointwise nat_eq xs ys ≡ same_trees (text_tree xs) (text_tree ys)
texts_alike [] [] = refl
texts_alike [] (y ∷ ys) = refl
texts_alike (x ∷ xs) [] = refl
texts_alike (x ∷ xs) (y ∷ ys) = ap (λ r. nat_eq x y && r) (texts_alike xs ys)
