-- The constants rise, and the table has them.
use Rattle.std.proofs.Common.{◌≡◌, ℕ, zero, suc, ◌+◌, ◌-◌, ◌*◌, ◌^◌, ◌<◌, ◌≤◌, Bool, true, false, ◌&&◌, leb, ltb, List, [], ◌∷◌, length, get_or, ⊎_elim, refl, subst, arith}
use Rattle.std.proofs.Math.Nat.{pow-le-pow_left, pow-le-pow_right, mul-le-mul_left, one-le-pow}
use Rattle.std.proofs.lemmas.Bool.{cases_lt, leb-true, leb-false, ltb-true}
use Rattle.std.specs.List.Sorted.{IsPartitionPoint}
use Rattle.mt_sketch_spec.specs.Score.{IsConstant}
use Rattle.mt_score.specs.declared.dice.TheConstants.{CONSTANTS}

-- the sixteenth power that a constant comes up to
abbrev pub power_of : ℕ → ℕ
power_of j = (10 ^ 9) ^ 16 * 2 ^ j

pub rises : (i j c d : ℕ) → i ≤ j → IsConstant i c → IsConstant j d → c ≤ d
rises i j c d h first second =
    let p : 2 ^ i ≤ 2 ^ j = pow-le-pow_right (omega arith) h in
    let q : power_of i ≤ power_of j = mul-le-mul_left ((10 ^ 9) ^ 16) p in
    first.least d (omega (arith, q, second.enough))

pub billion : (j c : ℕ) → IsConstant j c → 10 ^ 9 ≤ c
billion j c is =
    let p : 1 ≤ 2 ^ j = one-le-pow j 2 (omega arith) in
    let q : (10 ^ 9) ^ 16 * 1 ≤ power_of j = mul-le-mul_left ((10 ^ 9) ^ 16) p in
    ⊎_elim
    (λ h.
    let small : c ≤ 10 ^ 9 - 1 = omega arith in
    let r : c ^ 16 ≤ (10 ^ 9 - 1) ^ 16 = pow-le-pow_left small 16 in
    absurd (omega (arith, q, r, is.enough)))
    (λ h. h)
    (cases_lt c (10 ^ 9))

-- a number whose power is enough, where the number before has none
abbrev pub is_rounded : ℕ → ℕ → Bool
is_rounded j c = leb (power_of j) (c ^ 16) && ltb ((c - 1) ^ 16) (power_of j)

abbrev are_rounded : ℕ → List ℕ → Bool
are_rounded j [] = true
are_rounded j (c ∷ cs) = is_rounded j c && are_rounded (suc j) cs

both : (a b : Bool) → (a && b) ≡ true → (a ≡ true) × (b ≡ true)
both true true h = (refl, refl)
both true false h = cc
both false true h = cc
both false false h = cc

pub constant_from : (j c : ℕ) → is_rounded j c ≡ true → IsConstant j c
constant_from j c h =
    let p = both (leb (power_of j) (c ^ 16)) (ltb ((c - 1) ^ 16) (power_of j)) h in
    let low : (c - 1) ^ 16 < power_of j = ltb-true _ _ p.1 in
    record {
      enough = leb-true _ _ p.0;
      least = λ d enough. ⊎_elim
          (λ h. let r : d ^ 16 ≤ (c - 1) ^ 16 = pow-le-pow_left (omega arith) 16 in absurd (omega (arith, r, low, enough)))
          (λ h. h)
          (cases_lt d c);
    }

constants_from : (j : ℕ) (cs : List ℕ) → are_rounded j cs ≡ true → (i : ℕ) → i < length cs → IsConstant (j + i) (get_or cs i 0)
constants_from j [] h i low = absurd (omega arith)
constants_from j (c ∷ cs) h zero low =
    let P : ℕ → Type 0 = λ n. IsConstant n c in
    let e : j ≡ j + 0 = omega arith in
    subst P e (constant_from j c (both (is_rounded j c) (are_rounded (suc j) cs) h).0)
constants_from j (c ∷ cs) h (suc i) low =
    let P : ℕ → Type 0 = λ n. IsConstant n (get_or cs i 0) in
    let e : suc j + i ≡ j + suc i = omega arith in
    subst P e (constants_from (suc j) cs (both (is_rounded j c) (are_rounded (suc j) cs) h).1 i (omega arith))

pub in_table : (j : ℕ) → j < 16 → IsConstant j (get_or CONSTANTS j 0)
in_table j h =
    let P : ℕ → Type 0 = λ n. IsConstant n (get_or CONSTANTS j 0) in
    let e : 0 + j ≡ j = omega arith in
    subst P e (constants_from 0 CONSTANTS refl j h)

-- the last constant that times s is within a limit
pub record IsLast (s limit i : ℕ) : Type 0 where
  pub positive : 1 ≤ i
  pub within : s * get_or CONSTANTS (i - 1) 0 ≤ limit
  pub last : i - 1 < 15 → limit < s * get_or CONSTANTS (i - 1 + 1) 0

pub IsLast-from_point : (s limit i : ℕ) → s * 10 ^ 9 ≤ limit → IsPartitionPoint (λ y. leb (s * y) limit ≡ true) (λ y. leb (s * y) limit ≡ false) CONSTANTS i → IsLast s limit i
IsLast-from_point s limit i one point =
    let past : (k : ℕ) → i ≤ k → k < 16 → limit < s * get_or CONSTANTS k 0 = λ k low high. leb-false (s * get_or CONSTANTS k 0) limit (point.1 k 0 low high) in
    let positive : 1 ≤ i = ⊎_elim (λ h. absurd (omega (arith, past 0 (omega arith) (omega arith)))) (λ h. h) (cases_lt i 1) in
    record {
      positive = positive;
      within = leb-true (s * get_or CONSTANTS (i - 1) 0) limit (point.0 (i - 1) 0 (omega arith) (omega arith));
      last = λ h. past (i - 1 + 1) (omega arith) (omega arith);
    }
