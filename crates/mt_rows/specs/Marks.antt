-- Marks that say which items of a list are kept.
use Rattle.std.specs.Prelude.{Bool, true, false, List, [], ◌∷◌, Decides}
use Rattle.std.specs.List.{AllZip}

-- the items whose mark is true, in order
abbrev pub kept : {X : Type 0} → List Bool → List X → List X
kept [] items = []
kept (mark ∷ marks) [] = []
kept (true ∷ marks) (item ∷ items) = item ∷ kept marks items
kept (false ∷ marks) (item ∷ items) = kept marks items

-- each mark tells whether Q holds of its item
abbrev pub Tell : {X : Type 0} → (Q : X → Type 0) → List X → List Bool → Type 0
Tell Q = AllZip (λ item mark. Decides mark (Q item))
