-- Texts that lie in one block, one behind the other, by the places where they end.
use Rattle.std.specs.Prelude.{ℕ, ◌≡◌, ◌≤◌, List, [], ◌∷◌, length, slice_range}
use Rattle.std.specs.Str.{IsCharBoundary}

-- the pieces of the block that end at these places, where the first begins at `from`
abbrev pub pieces : List ℕ → ℕ → List ℕ → List (List ℕ)
pieces block from [] = []
pieces block from (to ∷ ends) = slice_range block from to ∷ pieces block to ends

-- the ends do not fall, a text may be cut at each, and the last piece ends where the block does
abbrev pub AreEnds : List ℕ → ℕ → List ℕ → Type 0
AreEnds block from [] = from ≡ length block
AreEnds block from (to ∷ ends) = (from ≤ to) × IsCharBoundary block to × AreEnds block to ends
