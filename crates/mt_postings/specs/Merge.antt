-- The merge of two ascending lists.
use Rattle.std.specs.Prelude.{ℕ, zero, suc, nat_lt, if◌then◌else◌, List, [], ◌∷◌}

-- the lesser of the first numbers comes first, and once where they are equal; it takes at most `most` numbers that way
abbrev pub merge : ℕ → List ℕ → List ℕ → List ℕ
merge most [] right = right
merge most (a ∷ left) [] = a ∷ left
merge zero (a ∷ left) (b ∷ right) = []
merge (suc most) (a ∷ left) (b ∷ right) =
    if nat_lt a b then a ∷ merge most left (b ∷ right) else (if nat_lt b a then b ∷ merge most (a ∷ left) right else a ∷ merge most left right)
