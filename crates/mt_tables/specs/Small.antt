-- A text of one token with one instance around it, its registry and its tables.
use Rattle.std.specs.Prelude.{ℕ, List, [], ◌∷◌, codes, None}
use Rattle.mt_text_spec.specs.Registries.{Registry, base_attr}
use Rattle.mt_text_spec.specs.Texts.{StructSpan, Text}
use Rattle.mt_segment_spec.specs.Tables.{Tables}

abbrev pub small_registry : Registry
small_registry = record { attrs = base_attr (codes "word") ∷ []; kinds = record { name = codes "s"; attrs = [] } ∷ []; ws_attr = 0 }

abbrev pub small_span : StructSpan
small_span = record { kind = 0; begin = 0; end = 1; values = [] }

abbrev pub small_text : Text
small_text = record { name = codes "a"; tokens = record { values = codes "x" ∷ [] } ∷ []; structs = small_span ∷ [] }

abbrev pub small_tables : Tables
small_tables = record {
  texts = (codes "a", 1) ∷ [];
  attrs = record { base = None; lexicon = codes "x" ∷ []; numbers = 0 ∷ []; postings = (0 ∷ []) ∷ [] } ∷ [];
  structs = ((small_span ∷ []) ∷ []) ∷ [];
}
