-- The places of the labels 1 to 9, that of 1 first; a label that is not set has no place.
use Rattle.std.specs.Prelude.{ℕ, zero, suc, ◌≡◌, ◌≢◌, ◌==◌, List, [], ◌∷◌, replicate, slice_set, slice_get, Some, if◌then◌else◌}
use Rattle.mt_text_spec.specs.Texts.{unset}

-- no label is set
abbrev pub no_labels : List ℕ
no_labels = replicate 9 unset

-- one label alone has this place; 0 is none
abbrev pub labelled : (label place : ℕ) → List ℕ
labelled zero place = no_labels
labelled (suc before) place = slice_set no_labels before place

-- the place of a label in one of two parts, where at most one of them sets it
abbrev pub place_of_either : ℕ → ℕ → ℕ
place_of_either place other = if place == unset then other else place

-- the labels of both parts together
abbrev pub united : List ℕ → List ℕ → List ℕ
united [] others = []
united (place ∷ places) [] = place ∷ places
united (place ∷ places) (other ∷ others) = place_of_either place other ∷ united places others

-- a label is set, to this place
abbrev pub IsSetTo : List ℕ → (label place : ℕ) → Type 0
IsSetTo labels zero place = ⊥
IsSetTo labels (suc before) place = (slice_get labels before ≡ Some place) × (place ≢ unset)
