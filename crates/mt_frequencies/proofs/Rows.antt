-- Lines behind lines, and entries behind entries.
use Rattle.std.proofs.Common.{◌≡◌, ℕ, ◌+◌, ◌<◌, ◌≤◌, Bool, true, false, cond, List, [], ◌∷◌, ◌++◌, length, map, filter, take, get_or, slice_get, Some, append-nil, append_assoc, sym, ◌∙◌, ap, arith}
use Rattle.std.specs.List.{flat_map}
use Rattle.std.proofs.lemmas.List.{length-map, length-take, map-append, map_more}
use Rattle.std.proofs.lemmas.List.Concat.{flat_map-append}
use Rattle.std.proofs.lemmas.List.Elements.{filter_more}
use Rattle.std.proofs.lemmas.List.Sums.{count_by-le-length, length-filter}
use Rattle.std.proofs.lemmas.Option.{get_or_from_slice_get, slice_get_within}
use Rattle.mt_text_spec.specs.Lines.{closed}

-- one line more
lines_of : {X : Type 0} (line : X → List ℕ) (xs : List X) (i : ℕ) (x : X) → i < length xs → x ≡ get_or xs i x → flat_map closed (map line (take i xs)) ++ closed (line x) ≡ flat_map closed (map line (take (i + 1) xs))
lines_of {X} line xs i x l is =
    let before = flat_map closed (map line (take i xs)) in
    ap (λ (y : X). before ++ closed (line y)) is
    ∙ sym (
    ap (flat_map closed) (map_more line xs i x l)
    ∙ flat_map-append closed (map line (take i xs)) (line (get_or xs i x) ∷ [])
    ∙ ap (λ (bytes : List ℕ). before ++ bytes) (append-nil (closed (line (get_or xs i x)))))

-- and the same behind what stands in front
pub lines_more : {X : Type 0} (line : X → List ℕ) (xs : List X) (i : ℕ) (x : X) (front old out new : List ℕ) → i < length xs → x ≡ get_or xs i x → out ≡ old ++ (front ++ flat_map closed (map line (take i xs))) → new ≡ out ++ closed (line x) →
    new ≡ old ++ (front ++ flat_map closed (map line (take (i + 1) xs)))
lines_more line xs i x front old out new l is out_is new_is =
    let before = flat_map closed (map line (take i xs)) in
    let behind = closed (line x) in
    let one : (old ++ (front ++ before)) ++ behind ≡ old ++ ((front ++ before) ++ behind) = append_assoc old (front ++ before) behind in
    let two : (front ++ before) ++ behind ≡ front ++ (before ++ behind) = append_assoc front before behind in
    let three : front ++ (before ++ behind) ≡ front ++ flat_map closed (map line (take (i + 1) xs)) = ap (λ (bytes : List ℕ). front ++ bytes) (lines_of line xs i x l is) in
    let first : new ≡ (old ++ (front ++ before)) ++ behind = new_is ∙ ap (λ (bytes : List ℕ). bytes ++ behind) out_is in
    let rest : old ++ ((front ++ before) ++ behind) ≡ old ++ (front ++ flat_map closed (map line (take (i + 1) xs))) = ap (λ (bytes : List ℕ). old ++ bytes) (two ∙ three) in
    first ∙ one ∙ rest

-- one entry more, or none
module _ {X : Type 0} (made : List ℕ → X) (keep : List ℕ → Bool) (values : List (List ℕ)) (n : ℕ) (value : List ℕ) (at : slice_get values n ≡ Some value) where
  own : get_or values n value ≡ value
  own = get_or_from_slice_get values n value value at

  pub entry_more : (all new : List X) (one : X) → keep value ≡ true → one ≡ made value → all ≡ map made (filter keep (take n values)) → new ≡ all ++ one ∷ [] → new ≡ map made (filter keep (take (n + 1) values))
  entry_more all new one kept is all_is new_is =
      new_is ∙ ap (λ (xs : List X). xs ++ one ∷ []) all_is ∙ ap (λ (x : X). map made (filter keep (take n values)) ++ x ∷ []) is
      ∙ sym (
      ap (map made) (filter_more keep values n value (slice_get_within values n value at) ∙ ap (λ (v : List ℕ). filter keep (take n values) ++ cond (keep v) (v ∷ []) []) own ∙ ap (λ (b : Bool). filter keep (take n values) ++ cond b (value ∷ []) []) kept)
      ∙ map-append made (filter keep (take n values)) (value ∷ []))

  pub entry_none : (all new : List X) → keep value ≡ false → all ≡ map made (filter keep (take n values)) → new ≡ all → new ≡ map made (filter keep (take (n + 1) values))
  entry_none all new left all_is new_is =
      new_is ∙ all_is
      ∙ sym (
      ap (map made) (filter_more keep values n value (slice_get_within values n value at) ∙ ap (λ (v : List ℕ). filter keep (take n values) ++ cond (keep v) (v ∷ []) []) own ∙ ap (λ (b : Bool). filter keep (take n values) ++ cond b (value ∷ []) []) left ∙ append-nil (filter keep (take n values))))

pub entries_few : {X : Type 0} (made : List ℕ → X) (keep : List ℕ → Bool) (values : List (List ℕ)) (n : ℕ) (all : List X) → all ≡ map made (filter keep (take n values)) → length all ≤ n
entries_few made keep values n all is =
    omega (arith, ap length is, length-map (filter keep (take n values)) made, length-filter keep (take n values), count_by-le-length keep (take n values), length-take n values)

-- the parts of a line
pub put_together : (out a b c d e o₁ o₂ o₃ o₄ o₅ : List ℕ) → o₁ ≡ out ++ a → o₂ ≡ o₁ ++ b → o₃ ≡ o₂ ++ c → o₄ ≡ o₃ ++ d → o₅ ≡ o₄ ++ e → o₅ ≡ out ++ ((a ++ b ++ c ++ d) ++ e)
put_together out a b c d e o₁ o₂ o₃ o₄ o₅ e₁ e₂ e₃ e₄ e₅ =
    let parts : o₅ ≡ ((((out ++ a) ++ b) ++ c) ++ d) ++ e = cc in
    parts ∙ simp append_assoc
