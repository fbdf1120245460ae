-- Lists that lie in one block, one behind the other, by the places where they begin.
use Rattle.std.specs.Prelude.{ℕ, zero, suc, ◌≤◌, List, [], ◌∷◌, take, drop, slice_range}

-- the lists of the block that begin at these places, of which the last goes to its end
abbrev pub parts : {X : Type 0} → List X → List ℕ → List (List X)
parts block [] = []
parts block (begin ∷ []) = drop begin block ∷ []
parts block (begin ∷ next ∷ begins) = slice_range block begin next ∷ parts block (next ∷ begins)

-- the places do not fall, and none is before `from` or behind the block's end
abbrev pub AreBegins : ℕ → ℕ → List ℕ → Type 0
AreBegins from end [] = from ≤ end
AreBegins from end (begin ∷ begins) = (from ≤ begin) × AreBegins begin end begins

-- lists in groups of so many, as many groups
abbrev pub groups : {X : Type 0} → ℕ → ℕ → List X → List (List X)
groups size zero lists = []
groups size (suc count) lists = take size lists ∷ groups size count (drop size lists)
