-- What is always so of a registry that was read.
use Rattle.std.specs.Prelude.{ℕ, ◌≡◌, List, Some}
use Rattle.std.specs.List.{All, Contains}
use Rattle.mt_text_spec.specs.Registries.{Registry, Attr}
use Rattle.mt_file_spec.specs.RegistryFile.{ReadsRegistry}

-- a mapper of the attribute's name is at hand, if the attribute is a mapped one
abbrev pub HasMapper : List (List ℕ) → Attr → Type 0
HasMapper names attr = (base : ℕ) → attr.base ≡ Some base → Contains names attr.mapper

-- Where a file is read as a registry with mappers of these names at hand, each mapped attribute has one of them.
abbrev pub MappersAreAtHand : Type 0
MappersAreAtHand = (names : List (List ℕ)) (bytes : List ℕ) (registry : Registry) → ReadsRegistry names bytes registry → All (HasMapper names) registry.attrs
