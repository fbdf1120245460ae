-- Mappers that are dropped: what is left of them has the names and images that are left of all names and images.
use Rattle.std.proofs.Common.{◌≡◌, ℕ, ◌&&◌, ◌||◌, ◌++◌, Bool, true, false, if◌then◌else◌, not, List, [], ◌∷◌, map, refl, sym, ◌∙◌, ap, ap₂}
use Rattle.std.specs.List.{list_any}
use Rattle.std.specs.Str.{bytes_eq}
use Rattle.std.proofs.lemmas.List.{map-append}
use Rattle.mt_text_spec.specs.Registries.{Registry}
use Rattle.mt_segment.specs.Mappers.{named}
use Rattle.mt_corpus.specs.Keeping.{firsts, is_first, is_named}

module _ {X Y : Type 0} (seen : X → Y) (called : Y → List ℕ) (passes : List ℕ → Bool) where
  any_seen : (holds : Y → Bool) (xs : List X) → list_any holds (map seen xs) ≡ list_any (λ x. holds (seen x)) xs
  any_seen holds [] = refl
  any_seen holds (x ∷ xs) = ap (λ (b : Bool). holds (seen x) || b) (any_seen holds xs)

  first_seen : (before : List X) (x : X) → is_first called passes (map seen before) (seen x) ≡ is_first (λ y. called (seen y)) passes before x
  first_seen before x = ap (λ (b : Bool). passes (called (seen x)) && not b) (any_seen (λ earlier. bytes_eq (called (seen x)) (called earlier)) before)

  chosen_seen : (b : Bool) (x : X) (kept dropped : List X) → map seen (if b then x ∷ kept else dropped) ≡ (if b then seen x ∷ map seen kept else map seen dropped)
  chosen_seen true x kept dropped = refl
  chosen_seen false x kept dropped = refl

  firsts_seen : (before xs : List X) → map seen (firsts (λ x. called (seen x)) passes before xs) ≡ firsts called passes (map seen before) (map seen xs)
  unfolding firsts
  firsts_seen before [] = refl
  firsts_seen before (x ∷ xs) =
      let rest = firsts_seen (before ++ x ∷ []) xs ∙ ap (λ (all : List Y). firsts called passes all (map seen xs)) (map-append seen before (x ∷ [])) in
      chosen_seen (is_first (λ y. called (seen y)) passes before x) x _ _ ∙
      ap₂ (λ (b : Bool) (others : List Y). if b then seen x ∷ others else others) (sym (first_seen before x)) rest

named_firsts : {M : Type 0} (called : M → List ℕ) (image : M → List ℕ → List ℕ) (passes : List ℕ → Bool) (mappers : List M) →
    named called image (firsts called passes [] mappers) ≡ firsts (λ mapper. mapper.0) passes [] (named called image mappers)
named_firsts called image passes mappers = firsts_seen (λ mapper. (called mapper, image mapper)) (λ mapper. mapper.0) passes [] mappers

-- and so of those that a registry names
pub named_left : {M : Type 0} (called : M → List ℕ) (image : M → List ℕ → List ℕ) (registry : Registry) (old new : List M) → new ≡ firsts called (is_named registry) [] old →
    named called image new ≡ firsts (λ mapper. mapper.0) (is_named registry) [] (named called image old)
named_left called image registry old new e = ap (named called image) e ∙ named_firsts called image (is_named registry) old
