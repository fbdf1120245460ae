-- What marks say of a value is what the test says of it.
use Rattle.std.proofs.Common.{◌≡◌, ◌↔◌, ℕ, List, Bool, true, false, IsTrue, map, slice_get, Some, refl, sym, ◌∙◌, ap}
use Rattle.std.specs.Option.{option_map}
use Rattle.std.proofs.lemmas.Option.{slice_get-map, same_Some}

pub told : (test : List ℕ → Bool) (values : List (List ℕ)) (marks : List Bool) (id : ℕ) (value : List ℕ) (found : Bool) → marks ≡ map test values → slice_get values id ≡ Some value →
    (IsTrue found ↔ slice_get marks id ≡ Some true) → found ≡ test value
told test values marks id value found e at h = by found (test value) h read
  where
    read : slice_get marks id ≡ Some (test value)
    read = ap (λ (bs : List Bool). slice_get bs id) e ∙ slice_get-map test values id ∙ ap (option_map test) at

    by : (f t : Bool) → (IsTrue f ↔ slice_get marks id ≡ Some true) → slice_get marks id ≡ Some t → f ≡ t
    by true true h read = refl
    by false false h read = refl
    by true false h read = same_Some true false (sym (h.0 refl) ∙ read)
    by false true h read = h.1 read
