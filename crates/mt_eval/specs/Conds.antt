-- What rows must be, so that a segment has values where conditions ask for them.
use Rattle.std.specs.Prelude.{ℕ, ◌<◌, length}
use Rattle.mt_text_spec.specs.Texts.{Row}
use Rattle.mt_match_spec.specs.Labels.{IsSetTo}
use Rattle.mt_segment_spec.specs.Tables.{Tables}
use Rattle.mt_eval_spec.specs.Told.{told_tokens}

-- the row is of a text of the segment, and its labels stand at tokens of it
pub record StandsIn (tables : Tables) (row : Row) : Type 0 where
  pub text : row.span.text < length tables.texts
  pub labels : (label place : ℕ) → IsSetTo row.labels label place → place < told_tokens tables row.span.text
