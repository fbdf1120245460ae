-- Words that begin at any bit of a set.
use Rattle.std.proofs.Common.{◌≡◌, ℕ, ◌+◌, ◌-◌, ◌*◌, ◌/◌, ◌%◌, ◌^◌, ◌<◌, ◌≤◌, List, get_or, sym, ◌∙◌, ap, inl, inr, arith, min, bit_and}
use Rattle.std.specs.Int.{bit_at}
use Rattle.std.proofs.lemmas.Bool.{cases_lt}
use Rattle.std.proofs.lemmas.Nat.Bits.{bit_at-zero, bit_at_and, bit_at-lt, bit_at_cat_low, bit_at_cat_high}
use Rattle.std.proofs.Math.Nat.{mod-lt}
use Rattle.std.proofs.lemmas.Nat.{pow_pos, div-add-mod'}
use Rattle.mt_places.specs.Places.{In, bit, room, WordIs, HasJust}

bit_word : (s : List ℕ) (w j : ℕ) → j < 64 → bit s (64 * w + j) ≡ bit_at (get_or s w 0) j
unfolding bit
bit_word s w j h =
    let d : (64 * w + j) / 64 ≡ w = omega arith in
    let m : (64 * w + j) % 64 ≡ j = omega arith in
    ap (λ x. bit_at (get_or s x 0) ((64 * w + j) % 64)) d ∙ ap (bit_at (get_or s w 0)) m

-- the bits of a remainder, and of a quotient
of_rem : (x j : ℕ) → j < 64 → bit_at (x % 2 ^ 64) j ≡ bit_at x j
of_rem x j h =
    let e : x / 2 ^ 64 * 2 ^ 64 + x % 2 ^ 64 ≡ x = omega arith in
    sym (bit_at_cat_low (x / 2 ^ 64) 64 (x % 2 ^ 64) j h) ∙ ap (λ y. bit_at y j) e

of_quotient : (x k j : ℕ) → bit_at (x / 2 ^ k) j ≡ bit_at x (k + j)
of_quotient x k j =
    let at : j ≡ k + j - k = omega arith in
    ap (bit_at (x / 2 ^ k)) at ∙ sym (bit_at_cat_high (x / 2 ^ k) k (x % 2 ^ k) (k + j) (mod-lt x (pow_pos k)) (omega arith)) ∙ ap (λ y. bit_at y (k + j)) (div-add-mod' x (2 ^ k))

-- 64 bits of two words, from some bit of the lower one on
pub moved_word : (s : List ℕ) (first at low high word : ℕ) → low ≡ get_or s (at + first / 64) 0 → high ≡ get_or s (at + first / 64 + 1) 0 → low < 2 ^ 64
    → word ≡ (high * 2 ^ 64 + low) / 2 ^ (first % 64) % 2 ^ 64 → WordIs (λ place. In s (first + place)) at word
moved_word s first at low high word is_low is_high small is =
    let r : ℕ = first % 64 in
    let q : ℕ = first / 64 in
    let same : (j : ℕ) → j < 64 → bit_at word j ≡ bit s (first + (64 * at + j)) = λ j h.
    let a : bit_at word j ≡ bit_at (high * 2 ^ 64 + low) (r + j) = ap (λ y. bit_at y j) is ∙ of_rem ((high * 2 ^ 64 + low) / 2 ^ r) j h ∙ of_quotient (high * 2 ^ 64 + low) r j in
    a ∙ (elim (cases_lt (r + j) 64) [
      | inl within ↦
          let place : 64 * (at + q) + (r + j) ≡ first + (64 * at + j) = omega arith in
          bit_at_cat_low high 64 low (r + j) within ∙ ap (λ x. bit_at x (r + j)) is_low ∙ sym (bit_word s (at + q) (r + j) within) ∙ ap (bit s) place
      | inr past ↦
          let place : 64 * (at + q + 1) + (r + j - 64) ≡ first + (64 * at + j) = omega (arith, past) in
          bit_at_cat_high high 64 low (r + j) small past ∙ ap (λ x. bit_at x (r + j - 64)) is_high ∙ sym (bit_word s (at + q + 1) (r + j - 64) (omega (arith, past, h))) ∙ ap (bit s) place
    ]) in
    record { sound = λ j h one. sym (same j h) ∙ one; complete = λ j h i. same j h ∙ i }

pub both_word : (P Q : ℕ → Type 0) (at a b : ℕ) → WordIs P at a → WordIs Q at b → WordIs (λ k. P k × Q k) at (bit_and a b)
both_word P Q at a b p q = record {
  sound = λ j h one.
      let e : bit_at (bit_and a b) j ≡ min (bit_at a j) (bit_at b j) = bit_at_and a b j in
      let x : bit_at a j < 2 = bit_at-lt a j in
      let y : bit_at b j < 2 = bit_at-lt b j in
      (p.sound j h (omega (arith, e, x, y, one)), q.sound j h (omega (arith, e, x, y, one)));
  complete = λ j h r.
      let e : bit_at (bit_and a b) j ≡ min (bit_at a j) (bit_at b j) = bit_at_and a b j in
      let x : bit_at a j ≡ 1 = p.complete j h r.0 in
      let y : bit_at b j ≡ 1 = q.complete j h r.1 in omega (arith, e, x, y);
}

-- behind the last word of a text there is nothing
pub none_there : (P : ℕ → Type 0) (at : ℕ) → ((k : ℕ) → 64 * at ≤ k → P k → ⊥) → WordIs P at 0
none_there P at never = record { sound = λ j h one. let z : bit_at 0 j ≡ 0 = bit_at-zero j in absurd (omega (arith, z, one)); complete = λ j h p. absurd (never (64 * at + j) (omega arith) p) }

pub other_name : (P Q : ℕ → Type 0) (at word : ℕ) → WordIs P at word → ((k : ℕ) → P k → Q k) → ((k : ℕ) → Q k → P k) → WordIs Q at word
other_name P Q at word w on back = record { sound = λ j h one. on (64 * at + j) (w.sound j h one); complete = λ j h q. w.complete j h (back (64 * at + j) q) }

-- a word of a set says what the set has
pub of_set : (P : ℕ → Type 0) (set : List ℕ) (at word : ℕ) → HasJust P set → ((k : ℕ) → P k → k < room set) → WordIs (In set) at word → WordIs P at word
of_set P set at word just fits w = other_name (In set) P at word w just.sound (λ k p. just.complete k p (fits k p))
