-- Which mappers a registry names, and which of them are kept.
use Rattle.std.specs.Prelude.{ℕ, ◌≡◌, ◌&&◌, ◌++◌, if◌then◌else◌, Bool, not, is_some, IsSome, List, [], ◌∷◌}
use Rattle.std.specs.List.{Contains, list_any}
use Rattle.std.specs.Str.{bytes_eq}
use Rattle.mt_text_spec.specs.Registries.{Registry, Attr}
use Rattle.mt_segment.specs.Mappers.{image_by}

-- a mapped attribute has the mapper of this name
abbrev pub is_named : Registry → List ℕ → Bool
is_named registry name = list_any (λ attr. is_some attr.base && bytes_eq attr.mapper name) registry.attrs

-- the item's name passes and is that of none of those before it
abbrev pub is_first : {X : Type 0} → (X → List ℕ) → (passes : List ℕ → Bool) → (before : List X) → X → Bool
is_first called passes before x = passes (called x) && not (list_any (λ earlier. bytes_eq (called x) (called earlier)) before)

-- the items whose name passes and is that of no earlier one, where these stand before them
unfoldable pub firsts : {X : Type 0} → (X → List ℕ) → (passes : List ℕ → Bool) → (before : List X) → List X → List X
firsts called passes before [] = []
firsts called passes before (x ∷ xs) = if is_first called passes before x then x ∷ firsts called passes (before ++ x ∷ []) xs else firsts called passes (before ++ x ∷ []) xs

-- Images agree with those of the mappers that the registry names.
pub record AgreeWith (images : List ℕ → List ℕ → List ℕ) (mappers : List (List ℕ × (List ℕ → List ℕ))) (registry : Registry) : Type 0 where
  pub each : (attr : Attr) → Contains registry.attrs attr → IsSome attr.base → (value : List ℕ) → images attr.mapper value ≡ image_by mappers attr.mapper value
