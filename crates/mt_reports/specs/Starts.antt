-- Where the search for a text starts.
use Rattle.std.specs.Prelude.{ℕ, ◌≡◌, ◌≤◌, ◌⊎◌}
use Rattle.mt_reports.specs.declared.cursor.Cursor.{Cursor}

-- where one was found last, or at the front; and not behind the text
pub record IsStart (last : Cursor) (text : ℕ) (start : Cursor) : Type 0 where
  pub from : start.before ≤ text
  pub either : (start ≡ last) ⊎ ((start.segment ≡ 0) × (start.before ≡ 0))
