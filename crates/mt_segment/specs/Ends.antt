-- Where texts end.
use Rattle.std.specs.Prelude.{ℕ, ◌≡◌, ◌+◌, ◌-◌, ◌<◌, List, length, map, take, sum, slice_index}

-- the places where the first so many of these texts, which are seen as their names and lengths, end
pub record AreFirstEnds (texts : List (List ℕ × ℕ)) (ends : List ℕ) (many : ℕ) : Type 0 where
  pub count : length ends ≡ many
  pub at : (text : ℕ) → text < many → slice_index ends text ≡ sum (map (λ (head : List ℕ × ℕ). head.1) (take (text + 1) texts))

-- and all of them but the last one, which ends where all tokens do
abbrev pub AreInnerEnds : List (List ℕ × ℕ) → List ℕ → Type 0
AreInnerEnds texts ends = AreFirstEnds texts ends (length texts - 1)
