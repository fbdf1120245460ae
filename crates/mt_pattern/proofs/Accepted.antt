-- Marks that say which values have a match of the wrapped pattern say which it accepts.
use Rattle.std.proofs.Common.{◌≡◌, ℕ, Bool, true, List, length, map, slice_get, Some, sym, ◌∙◌, ap, subst, refl, Result, Ok, Err, IfOk}
use Rattle.std.specs.List.{AllZip}
use Rattle.std.specs.Option.{option_map}
use Rattle.std.proofs.lemmas.List.{length-map}
use Rattle.std.proofs.lemmas.Option.{slice_get-map, same_Some}
use Rattle.mt_pattern.proofs.Marked.{pairs_of}
use Rattle.mt_pattern_spec.specs.Patterns.{IsPattern, MarksAccepted, finds, wrapped}

pub accepted : (text whole : List ℕ) (lexicon : List (List ℕ)) (marks : List Bool) → whole ≡ wrapped text → IsPattern text → IsPattern (wrapped text) → marks ≡ map (finds whole) lexicon → MarksAccepted text lexicon marks
accepted text whole lexicon marks e alone both is = record {
  count = ap length is ∙ length-map lexicon (finds whole);
  exactly = λ id value at.
      let read : slice_get marks id ≡ Some (finds (wrapped text) value) =
      ap (λ (bs : List Bool). slice_get bs id) is ∙ slice_get-map (finds whole) lexicon id ∙ ap (option_map (finds whole)) at ∙ ap (λ (p : List ℕ). Some (finds p value)) e in
      (λ marked. record { alone = alone; whole = both; found = same_Some (finds (wrapped text) value) true (sym read ∙ marked) }, λ its. read ∙ ap (λ (b : Bool). Some b) its.found);
}

-- the same of each of several lexicons
pub each_accepted : {X E : Type 0} (values : X → List (List ℕ)) (text whole : List ℕ) (lexicons : List X) (result : Result (List (List Bool)) E) → whole ≡ wrapped text → IsPattern text → IsPattern (wrapped text) →
    IfOk result (λ sets. sets ≡ map (λ x. map (finds whole) (values x)) lexicons) → IfOk result (λ sets. AllZip (λ x marks. MarksAccepted text (values x) marks) lexicons sets)
each_accepted values text whole lexicons (Err e) is alone both h = h
each_accepted values text whole lexicons (Ok sets) is alone both h =
    subst (λ (sets : List (List Bool)). AllZip (λ x marks. MarksAccepted text (values x) marks) lexicons sets) (sym h)
    (pairs_of (λ x. map (finds whole) (values x)) (λ x marks. MarksAccepted text (values x) marks) lexicons (λ x. accepted text whole (values x) _ is alone both refl))

-- the same of one lexicon, if there is memory
pub if_accepted : {E : Type 0} (text whole : List ℕ) (lexicon : List (List ℕ)) (result : Result (List Bool) E) → whole ≡ wrapped text → IsPattern text → IsPattern (wrapped text) →
    IfOk result (λ marks. marks ≡ map (finds whole) lexicon) → IfOk result (λ marks. MarksAccepted text lexicon marks)
if_accepted text whole lexicon (Err e) is alone both h = h
if_accepted text whole lexicon (Ok marks) is alone both h = accepted text whole lexicon marks is alone both h
