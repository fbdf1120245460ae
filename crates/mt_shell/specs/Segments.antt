-- What bytes are read as, where no text is made of them.
use Rattle.std.specs.Prelude.{ℕ, List, [], ◌∷◌}
use Rattle.mt_text_spec.specs.Registries.{Registry}
use Rattle.mt_text_spec.specs.Texts.{Text, ValidText}
use Rattle.mt_file_spec.specs.Vertical.{Vertical}
use Rattle.mt_segment_spec.specs.Tables.{Tables, AreTablesOf}

-- the tables of the text of this name that the bytes are read as
pub record IsSegmentOf (registry : Registry) (name bytes : List ℕ) (tables : Tables) : Type 0 where
  pub text : Text
  pub read : Vertical registry name bytes text
  pub valid : ValidText registry text
  pub made : (images : List ℕ → List ℕ → List ℕ) → AreTablesOf images registry (text ∷ []) tables
