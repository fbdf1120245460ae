-- A text without its values: how many tokens there are, and the instances of structures.
use Rattle.std.specs.Prelude.{ℕ, ◌≡◌, List, length, map, filter}
use Rattle.std.specs.List.{range_with_len}
use Rattle.mt_text_spec.specs.Registries.{Registry}
use Rattle.mt_text_spec.specs.Texts.{Text, StructSpan}
use Rattle.mt_file_spec.specs.Vertical.{Vertical}
use Rattle.mt_segment_spec.specs.Tables.{is_of_kind}

-- the instances of the first kinds, so many, kind by kind
abbrev pub kind_by_kind : ℕ → List StructSpan → List (List StructSpan)
kind_by_kind kinds structs = map (λ kind. filter (is_of_kind kind) structs) (range_with_len 0 kinds)

-- what is told of the text that the bytes are
pub record IsOutline (registry : Registry) (name bytes : List ℕ) (tokens : ℕ) (structs : List (List StructSpan)) : Type 0 where
  pub text : Text
  pub read : Vertical registry name bytes text
  pub count : tokens ≡ length text.tokens
  pub instances : structs ≡ kind_by_kind (length registry.kinds) text.structs
