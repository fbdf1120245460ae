-- Where the tokens of a text come from.
use Rattle.std.specs.Prelude.{ℕ, Bool, List, map}
use Rattle.std.specs.List.{range_with_len}
use Rattle.mt_generate_spec.specs.Generated.{token_of}

-- the tokens of a seed, from a place on
pub record Source : Type 0 where
  pub seed : ℕ
  pub place : ℕ

-- the values of the tokens of the first ranks, so many
unfoldable pub rows_of : Bool → ℕ → List (List (List ℕ))
rows_of plural count = map (λ rank. (token_of rank plural).values) (range_with_len 0 count)
