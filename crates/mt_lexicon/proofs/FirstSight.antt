-- Values numbered as they are first seen.
use Rattle.std.proofs.Common.{◌≡◌, ℕ, ◌+◌, ◌<◌, ◌≤◌, Bool, true, false, List, [], ◌∷◌, ◌++◌, length, get_or, slice_get, Some, refl, sym, ◌∙◌, ap, arith, ◌⊎◌, inl, inr, length-append, if◌then◌else◌}
use Rattle.std.specs.List.{list_any, Contains}
use Rattle.std.specs.Str.{bytes_eq}
use Rattle.std.specs.Cmp.Lexicographic.{bytes_decides}
use Rattle.std.proofs.lemmas.Bool.{cases_lt}
use Rattle.std.proofs.lemmas.List.{get_or_append_left, get_or_push, get_or_default}
use Rattle.std.proofs.lemmas.List.Elements.{All-from_get_or}
use Rattle.std.proofs.lemmas.List.Folds.{list_any_at, list_any_none}
use Rattle.std.proofs.lemmas.Option.{get_or_from_slice_get, slice_get_within}
use Rattle.mt_store_spec.specs.Lexicons.{seen_with}
use Rattle.mt_lexicon.specs.Entries.{AreDistinct}

-- a value that is there is not added
pub seen_again : (values : List (List ℕ)) (value : List ℕ) (n : ℕ) → slice_get values n ≡ Some value → values ≡ seen_with values value
seen_again values value n at =
    let is : get_or values n [] ≡ value = get_or_from_slice_get values n value [] at in
    let e : list_any (bytes_eq value) values ≡ true = list_any_at (bytes_eq value) values n [] (slice_get_within values n value at) ((bytes_decides value (get_or values n [])).1 (sym is)) in
    sym (ap (λ (b : Bool). if b then values else values ++ value ∷ []) e)

-- a value that is not there is added at the end
pub seen_first : (values : List (List ℕ)) (value : List ℕ) → (Contains values value → ⊥) → values ++ value ∷ [] ≡ seen_with values value
seen_first values value none =
    let e : list_any (bytes_eq value) values ≡ false =
    list_any_none (bytes_eq value) values (All-from_get_or (λ x. bytes_eq value x ≡ false) values [] (λ i l. other i l (bytes_eq value (get_or values i [])) refl)) in
    sym (ap (λ (b : Bool). if b then values else values ++ value ∷ []) e)
  where
    other : (i : ℕ) → i < length values → (b : Bool) → bytes_eq value (get_or values i []) ≡ b → bytes_eq value (get_or values i []) ≡ false
    other i l true e = absurd (none (i, l, get_or_default values i value [] l ∙ sym ((bytes_decides value (get_or values i [])).0 e)))
    other i l false e = e

-- and all stay distinct
pub distinct_more : (values : List (List ℕ)) (value : List ℕ) → AreDistinct values → (Contains values value → ⊥) → AreDistinct (values ++ value ∷ [])
distinct_more values value apart none = λ i j low l same. by i j low (cases_lt j (length values)) (omega (arith, length-append values (value ∷ []))) same
  where
    by : (i j : ℕ) → i < j → (j < length values) ⊎ (length values ≤ j) → j < length values + 1 → get_or (values ++ value ∷ []) i [] ≡ get_or (values ++ value ∷ []) j [] → ⊥
    by i j low (inl l) m same = apart i j low l (sym (get_or_append_left values (value ∷ []) [] i (omega arith)) ∙ same ∙ get_or_append_left values (value ∷ []) [] j l)
    by i j low (inr l) m same =
        let e : length values ≡ j = omega arith in
        let within : i < length values = omega arith in
        none (i, within, get_or_default values i value [] within ∙ sym (get_or_append_left values (value ∷ []) [] i within) ∙ same ∙ get_or_push values value [] j e)

-- at most one value more
pub length-seen_with : (values : List (List ℕ)) (value : List ℕ) → length (seen_with values value) ≤ length values + 1
length-seen_with values value = by (list_any (bytes_eq value) values)
  where
    by : (b : Bool) → length (if b then values else values ++ value ∷ []) ≤ length values + 1
    by true = omega arith
    by false = omega (arith, length-append values (value ∷ []))
