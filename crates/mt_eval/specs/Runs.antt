-- What an evaluation goes over.
use Rattle.std.specs.Prelude.{ℕ, ◌≡◌, ◌+◌, ◌<◌, ◌≤◌, List, length}
use Rattle.std.specs.List.{All, AllPairs}
use Rattle.mt_text_spec.specs.Queries.{Expr}
use Rattle.mt_segment_spec.specs.Tables.{Tables}
use Rattle.mt_eval_spec.specs.RowsIn.{expr_at}

-- numbers of texts of a segment, ascending
pub record AreTexts (tables : Tables) (texts : List ℕ) : Type 0 where
  pub ascending : AllPairs (λ text later. text < later) texts
  pub within : All (λ text. text < length tables.texts) texts

-- expressions stand among all of them, from this number on
pub record StandAt (all exprs : List Expr) (first : ℕ) : Type 0 where
  pub within : first + length exprs ≤ length all
  pub each : (number : ℕ) → number < length exprs → expr_at all (first + number) ≡ expr_at exprs number
