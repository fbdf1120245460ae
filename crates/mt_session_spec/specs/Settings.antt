-- What is at hand in a run, which no command changes: the mappers of attributes.
use Rattle.std.specs.Prelude.{ℕ, List, [], ◌∷◌, map, if◌then◌else◌}
use Rattle.std.specs.Str.{bytes_eq}

-- the mappers, each by its name and by what it makes of a value
pub record Setting : Type 0 where
  pub mappers : List (List ℕ × (List ℕ → List ℕ))

-- no mapper is at hand
abbrev pub bare_setting : Setting
bare_setting = record { mappers = [] }

-- the names of the mappers at hand
abbrev pub mapper_names : Setting → List (List ℕ)
mapper_names setting = map (λ mapper. mapper.0) setting.mappers

-- what a mapper makes of a value, by the mapper's name: of two with one name it is the first
abbrev pub image_by : List (List ℕ × (List ℕ → List ℕ)) → List ℕ → List ℕ → List ℕ
image_by [] name = λ value. []
image_by (mapper ∷ mappers) name = if bytes_eq name mapper.0 then mapper.1 else image_by mappers name

-- what the mappers at hand make of values
abbrev pub images_of : Setting → List ℕ → List ℕ → List ℕ
images_of setting = image_by setting.mappers
