-- What the names of attributes are looked up in.
use Rattle.std.specs.Prelude.{ℕ, List, Option, None, Some}
use Rattle.mt_text_spec.specs.Registries.{Registry, attr_names}
use Rattle.mt_query_spec.specs.Meaning.{attrs_of_kind}

-- the kind that a tag names, or none
abbrev pub names_in : Registry → Option (List ℕ) → List (List ℕ)
names_in registry None = attr_names registry.attrs
names_in registry (Some kind) = attrs_of_kind registry kind
