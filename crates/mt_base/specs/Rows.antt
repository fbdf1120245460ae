-- Tokens whose values lie one behind the other, token after token.
use Rattle.std.specs.Prelude.{ℕ, zero, suc, List, [], ◌∷◌, take, drop}
use Rattle.mt_text_spec.specs.Texts.{Token}

-- tokens in order, each with so many values
pub record Tokens : Type 0 where
  pub columns : ℕ
  pub tokens : List Token

-- the first so many tokens that these values make, each of so many values
abbrev pub rows : ℕ → ℕ → List (List ℕ) → List Token
rows columns zero values = []
rows columns (suc count) values = record { values = take columns values } ∷ rows columns count (drop columns values)
