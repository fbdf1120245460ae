-- What a call adds behind the rows that are there.
use Rattle.std.specs.Prelude.{ℕ, ◌≡◌, ◌<◌, ◌≤◌, List, ◌++◌, length}
use Rattle.mt_text_spec.specs.Texts.{Row}
use Rattle.mt_text_spec.specs.Orders.{row_cmp}
use Rattle.mt_match_spec.specs.Rows.{ListsAll}

-- all rows of P, ascending, for which there was room
pub record Appends (P : Row → Type 0) (room : ℕ) (old new : List Row) : Type 0 where
  pub rows : List Row
  pub are : ListsAll row_cmp P rows
  pub within : length rows ≤ room
  pub appended : new ≡ old ++ rows

-- there are more rows of P than there is room for
pub record HasMore (P : Row → Type 0) (room : ℕ) : Type 0 where
  pub rows : List Row
  pub are : ListsAll row_cmp P rows
  pub more : room < length rows

-- the new rows begin with the old
pub record Begins (old new : List Row) : Type 0 where
  pub rest : List Row
  pub appended : new ≡ old ++ rest
