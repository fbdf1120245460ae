-- Elias gamma and delta: their lengths, and that no code begins another.
use Rattle.std.proofs.Common.{ℕ, zero, suc, ◌≡◌, ◌+◌, ◌-◌, ◌*◌, ◌/◌, ◌%◌, ◌^◌, ◌<◌, ◌≤◌, Bool, true, false, List, [], ◌∷◌, ◌++◌, length, replicate, refl, sym, ap, ◌∙◌, subst, inl, inr, arith, add-one, append_assoc}
use Rattle.std.proofs.Math.Nat.{pow-suc, mod-eq_of_lt}
use Rattle.std.proofs.lemmas.Nat.{pow_pos, pow_below, pow-add, mod_low, mul-add-lt}
use Rattle.std.proofs.lemmas.Bool.{cases_lt, cases_order}
use Rattle.std.proofs.lemmas.Bool.Decides.{nat_tests}
use Rattle.std.proofs.lemmas.List.{length-append, length-replicate}
use Rattle.mt_store_spec.specs.Codes.{digits, halvings, log2, gamma, delta}
use Rattle.mt_postings.proofs.Digits.{length-digits, digits_joined, digits_padded, digits_top, same_from_digits, digits-same}

pub pow_more : (k : ℕ) → 2 ^ (k + 1) ≡ 2 * 2 ^ k
pow_more k = rw (add-one, pow-suc) (omega arith)

halvings_bounds : (most n : ℕ) → n ≤ most → 1 ≤ n → (2 ^ halvings most n ≤ n) × (n < 2 ^ (halvings most n + 1))
unfolding halvings
halvings_bounds zero n h k = absurd (omega arith)
halvings_bounds (suc most) n h k =
    elim (cases_lt n 2) [
      | inl l ↦ grind (arith, nat_tests)
      | inr g ↦
          let r = halvings_bounds most (n / 2) (omega arith) (omega arith) in
          let e = pow_more (halvings most (n / 2)) in
          let f = pow_more (halvings most (n / 2) + 1) in
          grind (arith, nat_tests)
    ]

-- n lies between two powers
pub log2_bounds : (n : ℕ) → 1 ≤ n → (2 ^ log2 n ≤ n) × (n < 2 ^ (log2 n + 1))
unfolding log2
log2_bounds n h = halvings_bounds n n (omega arith) h

pow_above : (i j : ℕ) → i < j → 2 ^ (i + 1) ≤ 2 ^ j
pow_above i j h =
    elim (cases_order (i + 1) j) [
      | inl e ↦ rw e (omega arith)
      | inr o ↦ elim o [ inl l ↦ let b = pow_below (i + 1) j l in omega arith | inr g ↦ absurd (omega arith) ]
    ]

pub pow_monotone : (i j : ℕ) → i ≤ j → 2 ^ i ≤ 2 ^ j
pow_monotone i j h =
    elim (cases_order i j) [
      | inl e ↦ rw e (omega arith)
      | inr o ↦ elim o [ inl l ↦ let b = pow_below i j l in omega arith | inr g ↦ absurd (omega arith) ]
    ]

-- and there is one such place
pub same_power : (i j n : ℕ) → 2 ^ i ≤ n → n < 2 ^ (i + 1) → 2 ^ j ≤ n → n < 2 ^ (j + 1) → i ≡ j
same_power i j n a b c d =
    elim (cases_order i j) [
      | inl e ↦ e
      | inr o ↦ elim o [
        | inl l ↦ let p = pow_above i j l in absurd (omega arith)
        | inr g ↦ let p = pow_above j i g in absurd (omega arith)
      ]
    ]

pub log2_is : (k n : ℕ) → 2 ^ k ≤ n → n < 2 ^ (k + 1) → log2 n ≡ k
log2_is k n a b =
    let p = pow_pos k in
    let r = log2_bounds n (omega arith) in
    same_power (log2 n) k n r.0 r.1 a b

-- gamma is zeros, a one, and the digits after it
pub gamma_parts : (n : ℕ) → 1 ≤ n → gamma n ≡ replicate (log2 n) false ++ true ∷ digits (log2 n) n
unfolding gamma
gamma_parts n h =
    let r = log2_bounds n h in
    let t = digits_top (log2 n) n r.0 r.1 in
    rw t refl

pub length-gamma : (n : ℕ) → length (gamma n) ≡ 2 * log2 n + 1
unfolding gamma
length-gamma n =
    let a = length-append (replicate (log2 n) false) (digits (log2 n + 1) n) in
    let b = length-replicate (log2 n) false in
    let c = length-digits (log2 n + 1) n in
    omega arith

pub length-delta : (n : ℕ) → length (delta n) ≡ 2 * log2 (log2 n + 1) + 1 + log2 n
unfolding delta
length-delta n =
    let a = length-append (gamma (log2 n + 1)) (digits (log2 n) n) in
    let b = length-gamma (log2 n + 1) in
    let c = length-digits (log2 n) n in
    omega arith

-- the zeros before the first one are told by the list
zeros_same : (a b : ℕ) (x y : List Bool) → replicate a false ++ true ∷ x ≡ replicate b false ++ true ∷ y → (a ≡ b) × (x ≡ y)
zeros_same zero zero x y h = (refl, cc)
zeros_same zero (suc b) x y h = absurd cc
zeros_same (suc a) zero x y h = absurd cc
zeros_same (suc a) (suc b) x y h =
    let t : replicate a false ++ true ∷ x ≡ replicate b false ++ true ∷ y = cc in
    let r = zeros_same a b x y t in
    (ap suc r.0, r.1)

-- two lists put together are told by the length of the first
pub parts_same : {A : Type 0} (a b r s : List A) → length a ≡ length b → a ++ r ≡ b ++ s → (a ≡ b) × (r ≡ s)
parts_same [] [] r s l h = (refl, h)
parts_same [] (y ∷ b) r s l h = absurd (omega arith)
parts_same (x ∷ a) [] r s l h = absurd (omega arith)
parts_same (x ∷ a) (y ∷ b) r s l h =
    let t : a ++ r ≡ b ++ s = cc in
    let e : x ≡ y = cc in
    let p = parts_same a b r s (omega arith) t in
    let q = p.0 in
    (cc, p.1)

low_same : (k a b : ℕ) → 2 ^ k ≤ a → a < 2 ^ (k + 1) → 2 ^ k ≤ b → b < 2 ^ (k + 1) → digits k a ≡ digits k b → a ≡ b
low_same k a b la ua lb ub h =
    let ta = digits_top k a la ua in
    let tb = digits_top k b lb ub in
    let e : digits (k + 1) a ≡ digits (k + 1) b = cc in
    let s = same_from_digits (k + 1) a b e in
    sym (mod-eq_of_lt ua) ∙ s ∙ mod-eq_of_lt ub

-- no gamma code begins another
pub gamma_same : (a b : ℕ) (r s : List Bool) → 1 ≤ a → 1 ≤ b → gamma a ++ r ≡ gamma b ++ s → (a ≡ b) × (r ≡ s)
gamma_same a b r s ha hb h =
    let ga = gamma_parts a ha in
    let gb = gamma_parts b hb in
    let ba = log2_bounds a ha in
    let bb = log2_bounds b hb in
    let ea : gamma a ++ r ≡ replicate (log2 a) false ++ true ∷ (digits (log2 a) a ++ r) = rw ga (append_assoc (replicate (log2 a) false) (true ∷ digits (log2 a) a) r) in
    let eb : gamma b ++ s ≡ replicate (log2 b) false ++ true ∷ (digits (log2 b) b ++ s) = rw gb (append_assoc (replicate (log2 b) false) (true ∷ digits (log2 b) b) s) in
    let z = zeros_same (log2 a) (log2 b) (digits (log2 a) a ++ r) (digits (log2 b) b ++ s) (sym ea ∙ h ∙ eb) in
    let p = parts_same (digits (log2 a) a) (digits (log2 b) b) r s (length-digits (log2 a) a ∙ z.0 ∙ sym (length-digits (log2 b) b)) z.1 in
    let d : digits (log2 b) a ≡ digits (log2 b) b = ap (λ k. digits k a) (sym z.0) ∙ p.0 in
    let la : 2 ^ log2 b ≤ a = subst (λ k. 2 ^ k ≤ a) z.0 ba.0 in
    let ua : a < 2 ^ (log2 b + 1) = subst (λ k. a < 2 ^ (k + 1)) z.0 ba.1 in
    (low_same (log2 b) a b la ua bb.0 bb.1 d, p.1)

-- no delta code begins another
pub delta_same : (a b : ℕ) (r s : List Bool) → 1 ≤ a → 1 ≤ b → delta a ++ r ≡ delta b ++ s → (a ≡ b) × (r ≡ s)
unfolding delta
delta_same a b r s ha hb h =
    let ba = log2_bounds a ha in
    let bb = log2_bounds b hb in
    let ea : delta a ++ r ≡ gamma (log2 a + 1) ++ (digits (log2 a) a ++ r) = append_assoc (gamma (log2 a + 1)) (digits (log2 a) a) r in
    let eb : delta b ++ s ≡ gamma (log2 b + 1) ++ (digits (log2 b) b ++ s) = append_assoc (gamma (log2 b + 1)) (digits (log2 b) b) s in
    let z = gamma_same (log2 a + 1) (log2 b + 1) (digits (log2 a) a ++ r) (digits (log2 b) b ++ s) (omega arith) (omega arith) (sym ea ∙ h ∙ eb) in
    let k : log2 a ≡ log2 b = omega (arith, z.0) in
    let p = parts_same (digits (log2 a) a) (digits (log2 b) b) r s (length-digits (log2 a) a ∙ k ∙ sym (length-digits (log2 b) b)) z.1 in
    let d : digits (log2 b) a ≡ digits (log2 b) b = ap (λ k. digits k a) (sym k) ∙ p.0 in
    let la : 2 ^ log2 b ≤ a = subst (λ k. 2 ^ k ≤ a) k ba.0 in
    let ua : a < 2 ^ (log2 b + 1) = subst (λ k. a < 2 ^ (k + 1)) k ba.1 in
    (low_same (log2 b) a b la ua bb.0 bb.1 d, p.1)

-- the codes as the digits of one number
pub gamma_digits : (z g : ℕ) → 2 ^ z ≤ g → g < 2 ^ (z + 1) → gamma g ≡ digits (2 * z + 1) g
unfolding gamma
gamma_digits z g l u =
    let e : log2 g ≡ z = log2_is z g l u in
    let k : 2 * z + 1 ≡ z + (z + 1) = omega arith in
    let p = digits_padded z (z + 1) g u in
    rw (e, k) (sym p)

pub delta_digits : (low zeros n : ℕ) → 2 ^ low ≤ n → n < 2 ^ (low + 1) → 2 ^ zeros ≤ low + 1 → low + 1 < 2 ^ (zeros + 1) → delta n ≡ digits (2 * zeros + 1 + low) (low * 2 ^ low + n)
unfolding delta
delta_digits low zeros n a b c d =
    let e : log2 n ≡ low = log2_is low n a b in
    let two = pow_more low in
    let m : n - 2 ^ low < 2 ^ low = omega arith in
    let sum : low * 2 ^ low + n ≡ (low + 1) * 2 ^ low + (n - 2 ^ low) = grind arith in
    let same : digits low n ≡ digits low (n - 2 ^ low) = digits-same low n (n - 2 ^ low) (ap (λ x. x % 2 ^ low) (omega arith) ∙ mod_low 1 low (n - 2 ^ low) m ∙ sym (mod-eq_of_lt m)) in
    let g = gamma_digits zeros (low + 1) c d in
    let j = digits_joined (2 * zeros + 1) low (low + 1) (n - 2 ^ low) m in
    rw (e, g, same, sum) (sym j)

-- a code of 42 bits at most
pub delta_fits : (low zeros n : ℕ) → low < 32 → 2 ^ low ≤ n → n < 2 ^ (low + 1) → 2 ^ zeros ≤ low + 1 → low + 1 < 2 ^ (zeros + 1) → (zeros < 6) × (low * 2 ^ low + n < 2 ^ (2 * zeros + 1 + low)) × (low * 2 ^ low + n < 2 ^ 40)
delta_fits low zeros n few a b c d =
    let two = pow_more low in
    let small : zeros < 6 = elim (cases_lt zeros 6) [ inl l ↦ l | inr g ↦ let p = pow_monotone 6 zeros g in absurd (omega arith) ] in
    let m : n - 2 ^ low < 2 ^ low = omega arith in
    let sum : low * 2 ^ low + n ≡ (low + 1) * 2 ^ low + (n - 2 ^ low) = grind arith in
    let up : 2 ^ (zeros + 1) ≤ 2 ^ (2 * zeros + 1) = pow_monotone (zeros + 1) (2 * zeros + 1) (omega arith) in
    let fits = mul-add-lt (low + 1) (2 ^ low) (n - 2 ^ low) (2 ^ (2 * zeros + 1)) (omega arith) m in
    let fits40 = mul-add-lt (low + 1) (2 ^ low) (n - 2 ^ low) 64 (omega arith) m in
    let thirty : 2 ^ low ≤ 2 ^ 31 = pow_monotone low 31 (omega arith) in
    let e : 2 ^ low * 2 ^ (2 * zeros + 1) ≡ 2 ^ (2 * zeros + 1 + low) = sym (pow-add 2 low (2 * zeros + 1)) ∙ ap (λ x. 2 ^ x) (omega arith) in
    (small, rw (sum, ← e) fits, omega arith)
