-- The pieces of a block of texts: how many there are, each by its place, and one more at the end.
use Rattle.std.proofs.Common.{◌≡◌, ℕ, ◌+◌, ◌-◌, ◌<◌, ◌≤◌, zero, suc, List, [], ◌∷◌, ◌++◌, length, take, drop, get_or, slice_get, Some, refl, sym, ◌∙◌, ap, ap₂, subst, arith, ◌⊎◌, inl, inr, length-append, map}
use Rattle.std.specs.Str.{IsCharBoundary, IsUtf8}
use Rattle.std.specs.List.{All, slice_range}
use Rattle.std.proofs.lemmas.List.Elements.{All-from_get_or}
use Rattle.std.proofs.lemmas.Bool.{cases_lt}
use Rattle.std.proofs.lemmas.List.{drop_at, take_all, drop-append-le, take-append-le, length-drop, drop-drop, get_or_append_left}
use Rattle.std.proofs.lemmas.Str.{IsCharBoundary-at_seam, IsCharBoundary-end, IsCharBoundary-from_rest}
use Rattle.mt_base.specs.Pieces.{pieces, AreEnds}

pub length-pieces : (block : List ℕ) (from : ℕ) (ends : List ℕ) → length (pieces block from ends) ≡ length ends
length-pieces block from [] = refl
length-pieces block from (to ∷ ends) = omega (arith, length-pieces block to ends)

pub end_at : (block : List ℕ) (from : ℕ) (ends : List ℕ) (k : ℕ) → AreEnds block from ends → k < length ends →
    (get_or (from ∷ ends) k 0 ≤ get_or ends k 0) × IsCharBoundary block (get_or ends k 0)
end_at block from [] k h l = absurd (omega arith)
end_at block from (to ∷ ends) zero h l = (h.0, h.1)
end_at block from (to ∷ ends) (suc k) h l = end_at block to ends k h.2 (omega arith)

pub start_at : (block : List ℕ) (ends : List ℕ) (k : ℕ) → AreEnds block 0 ends → k < length ends →
    0 < get_or (0 ∷ ends) k 0 → IsCharBoundary block (get_or (0 ∷ ends) k 0)
start_at block ends zero h l p = absurd (omega arith)
start_at block ends (suc k) h l p = (end_at block 0 ends k h (omega arith)).1

pub piece_at : (block : List ℕ) (from : ℕ) (ends : List ℕ) (k : ℕ) → k < length ends →
    slice_get (pieces block from ends) k ≡ Some (slice_range block (get_or (from ∷ ends) k 0) (get_or ends k 0))
piece_at block from [] k l = absurd (omega arith)
piece_at block from (to ∷ ends) zero l = refl
piece_at block from (to ∷ ends) (suc k) l = piece_at block to ends k (omega arith)

-- a text that is added leaves the pieces before it
range_stays : (block text : List ℕ) (from to : ℕ) → from ≤ to → to ≤ length block → slice_range (block ++ text) from to ≡ slice_range block from to
range_stays block text from to low high =
    let e : drop from (block ++ text) ≡ drop from block ++ text = drop-append-le from block text (omega arith) in
    ap (take (to - from)) e ∙ take-append-le (to - from) (drop from block) text (omega (arith, length-drop from block))

range_end : (block text : List ℕ) → slice_range (block ++ text) (length block) (length block + length text) ≡ text
range_end block text =
    ap (take (length block + length text - length block)) (drop_at block text (length block) refl) ∙ take_all (length block + length text - length block) text (omega arith)

boundary_stays : (block text : List ℕ) (i : ℕ) → IsUtf8 text → IsCharBoundary block i → IsCharBoundary (block ++ text) i
boundary_stays block text i u h =
    let seam : IsCharBoundary (block ++ text) (length block) = IsCharBoundary-at_seam (block ++ text) block text refl u in
    by (cases_lt i (length block)) seam
  where
    by : (i < length block) ⊎ (length block ≤ i) → IsCharBoundary (block ++ text) (length block) → IsCharBoundary (block ++ text) i
    by (inl l) seam = (omega (arith, length-append block text), λ m high. rw (get_or_append_left block text 0 i l) (h.1 l (rw (get_or_append_left block text 0 i l) at high)))
    by (inr l) seam = let e : length block ≡ i = omega (arith, h.0) in subst (IsCharBoundary (block ++ text)) e seam

pub pieces-push : (block text : List ℕ) (from : ℕ) (ends : List ℕ) → AreEnds block from ends →
    pieces (block ++ text) from (ends ++ (length block + length text) ∷ []) ≡ pieces block from ends ++ text ∷ []
pieces-push block text from [] h =
    ap (λ (n : ℕ). slice_range (block ++ text) n (length block + length text) ∷ []) h ∙ ap (λ (p : List ℕ). p ∷ []) (range_end block text)
pieces-push block text from (to ∷ ends) h = ap₂ ◌∷◌ (range_stays block text from to h.0 h.1.0) (pieces-push block text to ends h.2)

pub AreEnds-push : (block text : List ℕ) (from : ℕ) (ends : List ℕ) → IsUtf8 text → AreEnds block from ends →
    AreEnds (block ++ text) from (ends ++ (length block + length text) ∷ [])
AreEnds-push block text from [] u h =
    let e : length (block ++ text) ≡ length block + length text = length-append block text in
    (omega arith, subst (IsCharBoundary (block ++ text)) e (IsCharBoundary-end (block ++ text)), sym e)
AreEnds-push block text from (to ∷ ends) u h = (h.0, boundary_stays block text to u h.1, AreEnds-push block text to ends u h.2)

-- texts of another block that is put behind this one
range_moves : (block other : List ℕ) (from to : ℕ) → slice_range (block ++ other) (length block + from) (length block + to) ≡ slice_range other from to
range_moves block other from to =
    let e : drop (length block + from) (block ++ other) ≡ drop from other = sym (drop-drop from (length block) (block ++ other)) ∙ ap (drop from) (drop_at block other (length block) refl) in
    ap (take (length block + to - (length block + from))) e ∙ ap (λ n. take n (drop from other)) (omega arith)

pieces_moved : (block other : List ℕ) (from : ℕ) (ends : List ℕ) →
    pieces (block ++ other) (length block + from) (map (λ end. length block + end) ends) ≡ pieces other from ends
pieces_moved block other from [] = refl
pieces_moved block other from (to ∷ ends) = ap₂ ◌∷◌ (range_moves block other from to) (pieces_moved block other to ends)

pub pieces-append : (block other : List ℕ) (from : ℕ) (ends others : List ℕ) → AreEnds block from ends →
    pieces (block ++ other) from (ends ++ map (λ end. length block + end) others) ≡ pieces block from ends ++ pieces other 0 others
pieces-append block other from [] others h =
    ap (λ (n : ℕ). pieces (block ++ other) n (map (λ end. length block + end) others)) (h ∙ omega arith) ∙ pieces_moved block other 0 others
pieces-append block other from (to ∷ ends) others h = ap₂ ◌∷◌ (range_stays block other from to h.0 h.1.0) (pieces-append block other to ends others h.2)

ends_moved : (block other : List ℕ) (from : ℕ) (ends : List ℕ) → AreEnds other from ends →
    AreEnds (block ++ other) (length block + from) (map (λ end. length block + end) ends)
ends_moved block other from [] h = omega (arith, h, length-append block other)
ends_moved block other from (to ∷ ends) h =
    let d : drop (length block) (block ++ other) ≡ other = drop_at block other (length block) refl in (
      omega (arith, h.0),
      IsCharBoundary-from_rest (block ++ other) (length block) to (omega (arith, length-append block other)) (subst (λ bs. IsCharBoundary bs to) (sym d) h.1),
      ends_moved block other to ends h.2,
    )

pub AreEnds-append : (block other : List ℕ) (from : ℕ) (ends others : List ℕ) → IsUtf8 other → AreEnds block from ends → AreEnds other 0 others →
    AreEnds (block ++ other) from (ends ++ map (λ end. length block + end) others)
AreEnds-append block other from [] others u h k =
    subst (λ n. AreEnds (block ++ other) n (map (λ end. length block + end) others)) (omega (arith, h)) (ends_moved block other 0 others k)
AreEnds-append block other from (to ∷ ends) others u h k = (h.0, boundary_stays block other to u h.1, AreEnds-append block other to ends others u h.2 k)

-- no text ends behind its block
pub ends_fit : (block : List ℕ) (ends : List ℕ) (from bound : ℕ) → AreEnds block 0 ends → from + length block < bound → All (λ end. from + end < bound) ends
ends_fit block ends from bound h l =
    All-from_get_or (λ end. from + end < bound) ends 0 (λ k m. let b : IsCharBoundary block (get_or ends k 0) = (end_at block 0 ends k h m).1 in omega (arith, b.0))
