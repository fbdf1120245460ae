-- When the code that begins at a bit is refused: the three answers exclude each other.
use Rattle.std.proofs.Common.{ℕ, zero, suc, ◌≡◌, ◌+◌, ◌^◌, ◌<◌, ◌≤◌, ◌⊎◌, Bool, true, false, List, [], ◌∷◌, ◌++◌, length, replicate, sym, ap, ◌∙◌, subst, inl, inr, arith, append_assoc}
use Rattle.std.proofs.lemmas.Nat.{pow_below}
use Rattle.std.proofs.lemmas.Bool.{cases_order}
use Rattle.std.proofs.lemmas.List.{length-append, append-nil, nil_from_length}
use Rattle.mt_store_spec.specs.Codes.{digits, log2, gamma, delta, IsTooLarge, SixZeros, Passes32, IsCut}
use Rattle.mt_postings.proofs.Deltas.{log2_bounds, gamma_parts, gamma_same, delta_same}

-- fewer zeros than another list begins with
zeros_fewer : (a b : ℕ) (x r : List Bool) → a < b → replicate a false ++ true ∷ x ≡ replicate b false ++ r → ⊥
zeros_fewer a zero x r l h = omega arith
zeros_fewer zero (suc b) x r l h = cc
zeros_fewer (suc a) (suc b) x r l h =
    let t : replicate a false ++ true ∷ x ≡ replicate b false ++ r = cc in
    zeros_fewer a b x r (omega arith) t

-- A number whose logarithm is below k
pub log2_below : (k n : ℕ) → 1 ≤ n → n < 2 ^ k → log2 n < k
log2_below k n p h =
    let b = log2_bounds n p in
    elim (cases_order (log2 n) k) [
      | inl e ↦ let f : 2 ^ k ≤ n = subst (λ x. 2 ^ x ≤ n) e b.0 in absurd (omega arith)
      | inr o ↦ elim o [ inl l ↦ l | inr g ↦ let q = pow_below k (log2 n) g in absurd (omega arith) ]
    ]

-- What begins a list with a gamma code of at most five zeros is not too large, where it ends inside the code or the number is at most 32.
pub not_large : (left more rest : List Bool) (g : ℕ) → 1 ≤ g → log2 g < 6 → left ++ more ≡ gamma g ++ rest → (g ≤ 32) ⊎ (length left < length (gamma g)) → IsTooLarge left → ⊥
not_large left more rest g p few h why (SixZeros r e) =
    let parts = gamma_parts g p in
    let a : gamma g ++ rest ≡ replicate (log2 g) false ++ true ∷ (digits (log2 g) g ++ rest) = rw parts (append_assoc (replicate (log2 g) false) (true ∷ digits (log2 g) g) rest) in
    let b : left ++ more ≡ replicate 6 false ++ (r ++ more) = rw e (append_assoc (replicate 6 false) r more) in
    zeros_fewer (log2 g) 6 (digits (log2 g) g ++ rest) (r ++ more) few (sym a ∙ sym h ∙ b)
not_large left more rest g p few h why (Passes32 n r l e) =
    let b : left ++ more ≡ gamma n ++ (r ++ more) = rw e (append_assoc (gamma n) r more) in
    let s = gamma_same n g (r ++ more) rest (omega arith) p (sym b ∙ h) in
    let k : length left ≡ length (gamma n) + length r = ap length e ∙ length-append (gamma n) r in
    let m : length (gamma n) ≡ length (gamma g) = ap (λ x. length (gamma x)) s.0 in
    elim why [ inl small ↦ let t = s.0 in omega arith | inr short ↦ omega arith ]

-- the code of a number of at most 32 digits is not too large
pub code_not_large : (n : ℕ) (left rest : List Bool) → 1 ≤ n → n < 2 ^ 32 → left ≡ delta n ++ rest → IsTooLarge left → ⊥
unfolding delta
code_not_large n left rest p u h =
    let few : log2 n < 32 = log2_below 32 n p u in
    let fewer : log2 (log2 n + 1) < 6 = log2_below 6 (log2 n + 1) (omega arith) (omega arith) in
    let e : left ++ [] ≡ gamma (log2 n + 1) ++ (digits (log2 n) n ++ rest) = append-nil left ∙ h ∙ append_assoc (gamma (log2 n + 1)) (digits (log2 n) n) rest in
    not_large left [] (digits (log2 n) n ++ rest) (log2 n + 1) (omega arith) fewer e (inl (omega arith))

-- nor do the bits end inside it
pub code_not_cut : (n : ℕ) (left rest : List Bool) → 1 ≤ n → left ≡ delta n ++ rest → IsCut left → ⊥
code_not_cut n left rest p h c =
    let a : delta n ++ (rest ++ c.missing) ≡ left ++ c.missing = sym (append_assoc (delta n) rest c.missing) ∙ ap (λ x. x ++ c.missing) (sym h) in
    let b : delta n ++ (rest ++ c.missing) ≡ delta c.number ++ [] = a ∙ c.code ∙ sym (append-nil (delta c.number)) in
    let s = delta_same n c.number (rest ++ c.missing) [] p c.positive b in
    let l : length rest + length c.missing ≡ 0 = sym (length-append rest c.missing) ∙ ap length s.1 in
    c.inside (nil_from_length c.missing (omega arith))
