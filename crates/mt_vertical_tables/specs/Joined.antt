-- The tables of the text that a vertical is.
use Rattle.std.specs.Prelude.{ℕ, List, [], ◌∷◌}
use Rattle.mt_text_spec.specs.Registries.{Registry}
use Rattle.mt_text_spec.specs.Texts.{Text, ValidText}
use Rattle.mt_file_spec.specs.Vertical.{Vertical}
use Rattle.mt_segment_spec.specs.Tables.{Tables, AreTablesOf}

-- the tables of the text of this name that the bytes are read as
abbrev pub AreTablesOfVertical : Registry → List ℕ → List ℕ → Tables → Type 0
AreTablesOfVertical registry name bytes tables =
    (text : Text) × Vertical registry name bytes text × ValidText registry text × ((images : List ℕ → List ℕ → List ℕ) → AreTablesOf images registry (text ∷ []) tables)
