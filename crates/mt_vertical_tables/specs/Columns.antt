-- The columns of a vertical: the values of its tokens, column by column.
use Rattle.std.specs.Prelude.{ℕ, ◌≡◌, ◌<◌, ◌≤◌, ◌⊎◌, Bool, List, [], ◌∷◌, ◌++◌, length, map, Decides}
use Rattle.std.specs.List.{All, AllZip}
use Rattle.mt_text_spec.specs.Texts.{Token, value_bytes_limit, value_of}
use Rattle.mt_vertical.specs.Columns.{column_in}
use Rattle.mt_vertical.specs.Lines.{IsToken}
use Rattle.mt_store_spec.specs.Lexicons.{kept_values}
use Rattle.mt_segment_spec.specs.Tables.{AttrTables, AreBaseTables, tables_at}

-- the values that those of the lines that are tokens have in a column, in order, none of them longer than a value may be
pub record AreValuesIn (column : ℕ) (ls values : List (List ℕ)) : Type 0 where
  pub are_tokens : List Bool
  pub told : AllZip (λ line is_token. Decides is_token (IsToken line)) ls are_tokens
  pub are : values ≡ map (column_in column) (kept_values are_tokens ls)
  pub short : All (λ value. length value ≤ value_bytes_limit) values

-- the line is a token, and has this value in a column
pub record IsValueIn (column : ℕ) (line value : List ℕ) : Type 0 where
  pub token : IsToken line
  pub is : value ≡ column_in column line
  pub short : length value ≤ value_bytes_limit

-- a line more: its value is added if it is a token
abbrev pub AddsLine : ℕ → List ℕ → List (List ℕ) → List (List ℕ) → Type 0
AddsLine column line old new = ((¬ IsToken line) × (new ≡ old)) ⊎ ((value : List ℕ) × IsValueIn column line value × (new ≡ old ++ value ∷ []))

-- the tables of a column of lines
pub record IsColumnOf (ls : List (List ℕ)) (column : ℕ) (tables : AttrTables) : Type 0 where
  pub values : List (List ℕ)
  pub are : AreValuesIn column ls values
  pub made : AreBaseTables values tables

-- the tables of their first columns, so many
pub record AreColumns (ls : List (List ℕ)) (count : ℕ) (all : List AttrTables) : Type 0 where
  pub count_is : length all ≡ count
  pub each : (column : ℕ) → column < count → IsColumnOf ls column (tables_at all column)

-- the tables of the first columns of tokens, so many
pub record AreTokenColumns (tokens : List Token) (count : ℕ) (all : List AttrTables) : Type 0 where
  pub count_is : length all ≡ count
  pub each : (column : ℕ) → column < count → AreBaseTables (map (λ token. value_of token column) tokens) (tables_at all column)
