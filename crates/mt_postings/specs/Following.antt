-- Positions that follow others.
use Rattle.std.specs.Prelude.{ℕ, ◌+◌, ◌<◌, ◌≤◌, List, [], ◌∷◌}

-- they ascend from a least one on, and none is greater than 2^32 − 2
abbrev pub Follow : ℕ → List ℕ → Type 0
Follow least [] = least ≤ 4294967295
Follow least (p ∷ ps) = (least ≤ p) × (p < 4294967295) × Follow (p + 1) ps
