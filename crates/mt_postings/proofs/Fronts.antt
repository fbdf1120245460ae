-- What the first seven bits of a word tell of its code.
use Rattle.std.proofs.Common.{◌≡◌, ℕ, ◌+◌, ◌-◌, ◌*◌, ◌/◌, ◌^◌, ◌<◌, ◌≤◌, Bool, true, nat_eq, nat_lt, get_or, List, if◌then◌else◌, refl, sym, arith, inl, inr, subst}
use mathlib.Core.Bool.{◌&&◌, ◌||◌}
use Rattle.std.proofs.lemmas.Bool.{cases_lt, and_parts, agree_below, agree_below_at, eqb-true, ltb-true, or_cases, lt-ltb, le-ltb}
use Rattle.mt_postings.specs.Words.{Begins}
use Rattle.mt_postings.proofs.Heads.{Head, CodeAt, code_at, begins_one}

-- how many zeros stand before the first one, where there are at most three
abbrev pub zeros_of : ℕ → ℕ
zeros_of i = if nat_lt i 16 then 3 else (if nat_lt i 32 then 2 else (if nat_lt i 64 then 1 else 0))

-- the gamma number
abbrev pub gamma_of : ℕ → ℕ
gamma_of i = i / 2 ^ (6 - 2 * zeros_of i)

-- at this place the tables have the code's length and its excess
abbrev pub is_right : List ℕ → List ℕ → ℕ → Bool
is_right lengths excesses i = nat_lt i 8 || (nat_eq (get_or lengths i 0) (2 * zeros_of i + gamma_of i) && nat_eq (get_or excesses i 0) ((gamma_of i - 1) * 2 ^ (gamma_of i - 1)))

-- what is known of a word with these first bits
pub record Front (w i : ℕ) : Type 0 where
  pub head : Head w (zeros_of i)
  pub gamma : w / 2 ^ (63 - 2 * zeros_of i) ≡ gamma_of i
  pub small : gamma_of i ≤ 32

zeros_3 : (i : ℕ) → i < 16 → zeros_of i ≡ 3
zeros_3 i a = rw (lt-ltb i 16 a) refl

zeros_2 : (i : ℕ) → 16 ≤ i → i < 32 → zeros_of i ≡ 2
zeros_2 i a b = rw (le-ltb i 16 a, lt-ltb i 32 b) refl

zeros_1 : (i : ℕ) → 32 ≤ i → i < 64 → zeros_of i ≡ 1
zeros_1 i a b = let c : 16 ≤ i = omega arith in rw (le-ltb i 16 c, le-ltb i 32 a, lt-ltb i 64 b) refl

zeros_0 : (i : ℕ) → 64 ≤ i → zeros_of i ≡ 0
zeros_0 i a = let c : 16 ≤ i = omega arith in let d : 32 ≤ i = omega arith in rw (le-ltb i 16 c, le-ltb i 32 d, le-ltb i 64 a) refl

front_at : (w i z : ℕ) → zeros_of i ≡ z → Head w z → w / 2 ^ (63 - 2 * z) ≡ i / 2 ^ (6 - 2 * z) → i / 2 ^ (6 - 2 * z) ≤ 32 → Front w i
front_at w i z e h g s =
    record {
      head = subst (Head w) (sym e) h;
      gamma = subst (λ x. w / 2 ^ (63 - 2 * x) ≡ i / 2 ^ (6 - 2 * x)) (sym e) g;
      small = subst (λ x. i / 2 ^ (6 - 2 * x) ≤ 32) (sym e) s;
    }

pub front_of : (w i : ℕ) → w < 2 ^ 64 → w / 2 ^ 57 ≡ i → 8 ≤ i → Front w i
front_of w i fits e l =
    elim (cases_lt i 16) [
      | inl a ↦ front_at w i 3 (zeros_3 i a) (record { few = omega arith; low = omega arith; high = omega arith }) (omega arith) (omega arith)
      | inr b ↦
          elim (cases_lt i 32) [
            | inl a ↦ front_at w i 2 (zeros_2 i b a) (record { few = omega arith; low = omega arith; high = omega arith }) (omega arith) (omega arith)
            | inr c ↦
                elim (cases_lt i 64) [
                  | inl a ↦ front_at w i 1 (zeros_1 i c a) (record { few = omega arith; low = omega arith; high = omega arith }) (omega arith) (omega arith)
                  | inr d ↦ front_at w i 0 (zeros_0 i d) (record { few = omega arith; low = omega arith; high = omega arith }) (omega arith) (omega arith)
                ]
          ]
    ]

-- what right tables tell of it
pub record Told (w length excess : ℕ) : Type 0 where
  pub gamma : ℕ
  pub excess_is : excess ≡ (gamma - 1) * 2 ^ (gamma - 1)
  pub code : CodeAt w gamma length

told_at : (lengths excesses : List ℕ) (w i : ℕ) → w < 2 ^ 64 → w / 2 ^ 57 ≡ i → 8 ≤ i → agree_below (is_right lengths excesses) (λ _. true) 128 ≡ true → Told w (get_or lengths i 0) (get_or excesses i 0)
told_at lengths excesses w i fits e l right =
    let f = front_of w i fits e l in
    let right_length = nat_eq (get_or lengths i 0) (2 * zeros_of i + gamma_of i) in
    let right_excess = nat_eq (get_or excesses i 0) ((gamma_of i - 1) * 2 ^ (gamma_of i - 1)) in
    let both : (right_length && right_excess) ≡ true =
    elim (or_cases (nat_lt i 8) (right_length && right_excess) (agree_below_at (is_right lengths excesses) (λ _. true) 128 i right (omega arith))) [
      | inl low ↦ let x = ltb-true i 8 low in absurd (omega arith)
      | inr high ↦ high
    ] in
    let parts = and_parts right_length right_excess both in
    let len : get_or lengths i 0 ≡ 2 * zeros_of i + gamma_of i = eqb-true (get_or lengths i 0) (2 * zeros_of i + gamma_of i) parts.0 in
    record {
      gamma = gamma_of i;
      excess_is = eqb-true (get_or excesses i 0) ((gamma_of i - 1) * 2 ^ (gamma_of i - 1)) parts.1;
      code = subst (CodeAt w (gamma_of i)) (sym len) (code_at w (zeros_of i) (gamma_of i) f.head f.gamma f.small);
    }

pub told_of : (lengths excesses : List ℕ) (w length excess : ℕ) → w < 2 ^ 64 → 8 ≤ w / 2 ^ 57 → agree_below (is_right lengths excesses) (λ _. true) 128 ≡ true → length ≡ get_or lengths (w / 2 ^ 57) 0 → excess ≡ get_or excesses (w / 2 ^ 57) 0 → Told w length excess
told_of lengths excesses w length excess fits l right a b = rw (a, b) (told_at lengths excesses w (w / 2 ^ 57) fits refl l right)

-- the code's digits without the excess are the number
pub told_value : (w length excess : ℕ) → Told w length excess → (excess ≤ w / 2 ^ (64 - length)) × (w / 2 ^ (64 - length) - excess < 2 ^ 32) × Begins w (w / 2 ^ (64 - length) - excess) length
told_value w length excess t =
    (subst (λ x. x ≤ w / 2 ^ (64 - length)) (sym t.excess_is) t.code.above, subst (λ x. w / 2 ^ (64 - length) - x < 2 ^ 32) (sym t.excess_is) t.code.fits, subst (λ x. Begins w (w / 2 ^ (64 - length) - x) length) (sym t.excess_is) t.code.begins)

-- and it is no code of fewer bits
pub told_none : (w length excess held n k : ℕ) → Told w length excess → held < length → held ≤ 57 → Begins w n k → k ≤ held → ⊥
told_none w length excess held n k t short few b l =
    let e = begins_one w n (w / 2 ^ (64 - length) - excess) k length b (told_value w length excess t).2 (omega arith) t.code.few in
    absurd (omega arith)
