-- What conditions must be, so that a segment has values where they ask for them.
use Rattle.std.specs.Prelude.{◌<◌, List, length}
use Rattle.std.specs.List.{All}
use Rattle.mt_text_spec.specs.Queries.{Cond}
use Rattle.mt_segment_spec.specs.Tables.{Tables}

-- the segment has the attributes of a condition
pub record IsFor (tables : Tables) (cond : Cond) : Type 0 where
  pub left : cond.left_attr < length tables.attrs
  pub right : cond.right_attr < length tables.attrs

-- and those of all conditions
abbrev pub AreFor : Tables → List Cond → Type 0
AreFor tables conds = All (IsFor tables) conds
