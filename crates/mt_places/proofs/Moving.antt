-- Words moved up and down.
use Rattle.std.proofs.Common.{◌≡◌, ℕ, ◌+◌, ◌-◌, ◌*◌, ◌/◌, ◌%◌, ◌^◌, ◌<◌, ◌≤◌, List, get_or, sym, ◌∙◌, ap, inl, inr, arith, max, bit_or}
use Rattle.std.specs.Int.{bit_at}
use Rattle.std.proofs.lemmas.Bool.{cases_lt}
use Rattle.std.proofs.lemmas.Nat.Bits.{bit_at-zero, bit_at_or, bit_at_above, bit_at_cat_low, bit_at_cat_high}
use Rattle.std.proofs.Math.Nat.{mod-lt}
use Rattle.std.proofs.lemmas.Nat.{pow_pos, div-add-mod'}
use Rattle.mt_places.specs.Places.{In, bit, WordIs, IsAbove}
use Rattle.mt_places.proofs.Bits.{bit_word}

-- ## Bits of a word that is moved

-- the bits of a remainder
bit_at_rem : (x j : ℕ) → j < 64 → bit_at (x % 2 ^ 64) j ≡ bit_at x j
bit_at_rem x j h =
    let e : x / 2 ^ 64 * 2 ^ 64 + x % 2 ^ 64 ≡ x = omega arith in
    sym (bit_at_cat_low (x / 2 ^ 64) 64 (x % 2 ^ 64) j h) ∙ ap (λ y. bit_at y j) e

shl_low : (x k j : ℕ) → j < k → j < 64 → bit_at (x * 2 ^ k % 2 ^ 64) j ≡ 0
shl_low x k j h w =
    let plain : x * 2 ^ k ≡ x * 2 ^ k + 0 = omega arith in
    bit_at_rem (x * 2 ^ k) j w ∙ ap (λ y. bit_at y j) plain ∙ bit_at_cat_low x k 0 j h ∙ bit_at-zero j

shl_high : (x k j : ℕ) → k ≤ j → j < 64 → bit_at (x * 2 ^ k % 2 ^ 64) j ≡ bit_at x (j - k)
shl_high x k j h w =
    let plain : x * 2 ^ k ≡ x * 2 ^ k + 0 = omega arith in
    bit_at_rem (x * 2 ^ k) j w ∙ ap (λ y. bit_at y j) plain ∙ bit_at_cat_high x k 0 j (pow_pos k) h

shr : (x k j : ℕ) → bit_at (x / 2 ^ k) j ≡ bit_at x (k + j)
shr x k j =
    let at : j ≡ k + j - k = omega arith in
    ap (bit_at (x / 2 ^ k)) at ∙ sym (bit_at_cat_high (x / 2 ^ k) k (x % 2 ^ k) (k + j) (mod-lt x (pow_pos k)) (omega arith)) ∙ ap (λ y. bit_at y (k + j)) (div-add-mod' x (2 ^ k))

-- the word that the program makes of two, moved up and down
abbrev pub word_up : (high low by : ℕ) → ℕ
word_up high low by = bit_or (high * 2 ^ by % 2 ^ 64) (low / 2 / 2 ^ (63 - by))

abbrev pub word_down : (low high by : ℕ) → ℕ
word_down low high by = bit_or (low / 2 ^ by) (high * 2 % 2 ^ 64 * 2 ^ (63 - by) % 2 ^ 64)

half : (x j : ℕ) → bit_at (x / 2) j ≡ bit_at x (1 + j)
half x j = shr x 1 j

twice_low : (x : ℕ) → bit_at (x * 2 % 2 ^ 64) 0 ≡ 0
twice_low x = shl_low x 1 0 (omega arith) (omega arith)

twice_high : (x j : ℕ) → 1 ≤ j → j < 64 → bit_at (x * 2 % 2 ^ 64) j ≡ bit_at x (j - 1)
twice_high x j h w = shl_high x 1 j h w

pub up_first : (high low by j : ℕ) → by < 64 → j < by → bit_at (word_up high low by) j ≡ bit_at low (64 - by + j)
up_first high low by j w h =
    let a : bit_at (high * 2 ^ by % 2 ^ 64) j ≡ 0 = shl_low high by j h (omega arith) in
    let at : 1 + (63 - by + j) ≡ 64 - by + j = omega arith in
    let b : bit_at (low / 2 / 2 ^ (63 - by)) j ≡ bit_at low (64 - by + j) = shr (low / 2) (63 - by) j ∙ half low (63 - by + j) ∙ ap (bit_at low) at in
    let e : bit_at (word_up high low by) j ≡ max (bit_at (high * 2 ^ by % 2 ^ 64) j) (bit_at (low / 2 / 2 ^ (63 - by)) j) = bit_at_or (high * 2 ^ by % 2 ^ 64) (low / 2 / 2 ^ (63 - by)) j in
    omega (arith, a, b, e)

pub up_others : (high low by j : ℕ) → low < 2 ^ 64 → by < 64 → by ≤ j → j < 64 → bit_at (word_up high low by) j ≡ bit_at high (j - by)
up_others high low by j small w h k =
    let a : bit_at (high * 2 ^ by % 2 ^ 64) j ≡ bit_at high (j - by) = shl_high high by j h k in
    let b : bit_at (low / 2 / 2 ^ (63 - by)) j ≡ 0 = shr (low / 2) (63 - by) j ∙ half low (63 - by + j) ∙ bit_at_above low 64 (1 + (63 - by + j)) small (omega arith) in
    let e : bit_at (word_up high low by) j ≡ max (bit_at (high * 2 ^ by % 2 ^ 64) j) (bit_at (low / 2 / 2 ^ (63 - by)) j) = bit_at_or (high * 2 ^ by % 2 ^ 64) (low / 2 / 2 ^ (63 - by)) j in
    omega (arith, a, b, e)

-- bits of the word above, as it comes down
come_low : (high by j : ℕ) → by < 64 → j + by < 64 → bit_at (high * 2 % 2 ^ 64 * 2 ^ (63 - by) % 2 ^ 64) j ≡ 0
come_low high by j w h = elim (cases_lt j (63 - by)) [
  | inl low ↦ shl_low (high * 2 % 2 ^ 64) (63 - by) j low (omega arith)
  | inr last ↦
      let at : j - (63 - by) ≡ 0 = omega arith in
      shl_high (high * 2 % 2 ^ 64) (63 - by) j last (omega arith) ∙ ap (bit_at (high * 2 % 2 ^ 64)) at ∙ twice_low high
]

come_high : (high by j : ℕ) → by < 64 → 64 ≤ j + by → j < 64 → bit_at (high * 2 % 2 ^ 64 * 2 ^ (63 - by) % 2 ^ 64) j ≡ bit_at high (j + by - 64)
come_high high by j w h k =
    let at : j - (63 - by) - 1 ≡ j + by - 64 = omega arith in
    shl_high (high * 2 % 2 ^ 64) (63 - by) j (omega arith) k ∙ twice_high high (j - (63 - by)) (omega arith) (omega arith) ∙ ap (bit_at high) at

pub down_first : (low high by j : ℕ) → by < 64 → j + by < 64 → bit_at (word_down low high by) j ≡ bit_at low (j + by)
down_first low high by j w h =
    let at : by + j ≡ j + by = omega arith in
    let a : bit_at (low / 2 ^ by) j ≡ bit_at low (j + by) = shr low by j ∙ ap (bit_at low) at in
    let b : bit_at (high * 2 % 2 ^ 64 * 2 ^ (63 - by) % 2 ^ 64) j ≡ 0 = come_low high by j w h in
    let e : bit_at (word_down low high by) j ≡ max (bit_at (low / 2 ^ by) j) (bit_at (high * 2 % 2 ^ 64 * 2 ^ (63 - by) % 2 ^ 64) j) = bit_at_or (low / 2 ^ by) (high * 2 % 2 ^ 64 * 2 ^ (63 - by) % 2 ^ 64) j in
    omega (arith, a, b, e)

pub down_others : (low high by j : ℕ) → low < 2 ^ 64 → by < 64 → 64 ≤ j + by → j < 64 → bit_at (word_down low high by) j ≡ bit_at high (j + by - 64)
down_others low high by j small w h k =
    let a : bit_at (low / 2 ^ by) j ≡ 0 = shr low by j ∙ bit_at_above low 64 (by + j) small (omega arith) in
    let b : bit_at (high * 2 % 2 ^ 64 * 2 ^ (63 - by) % 2 ^ 64) j ≡ bit_at high (j + by - 64) = come_high high by j w h k in
    let e : bit_at (word_down low high by) j ≡ max (bit_at (low / 2 ^ by) j) (bit_at (high * 2 % 2 ^ 64 * 2 ^ (63 - by) % 2 ^ 64) j) = bit_at_or (low / 2 ^ by) (high * 2 % 2 ^ 64 * 2 ^ (63 - by) % 2 ^ 64) j in
    omega (arith, a, b, e)

-- ## Places of a set that is moved, word by word

-- how far the places are moved: so many words and so many bits
pub record Far (by words rest : ℕ) : Type 0 where
  pub is : by ≡ 64 * words + rest
  pub small : rest < 64

pub far : (by : ℕ) → Far by (by / 64) (by % 64)
far by = record { is = omega arith; small = omega arith }

pub raised_word : (s : List ℕ) (by q r at high low word : ℕ) → Far by q r → (at < q → high ≡ 0) → (q ≤ at → high ≡ get_or s (at - q) 0)
    → (at < q + 1 → low ≡ 0) → (q + 1 ≤ at → low ≡ get_or s (at - (q + 1)) 0)
    → ((j : ℕ) → j < r → bit_at word j ≡ bit_at low (64 - r + j)) → ((j : ℕ) → r ≤ j → j < 64 → bit_at word j ≡ bit_at high (j - r))
    → WordIs (IsAbove s by) at word
raised_word s by q r at high low word move no_high is_high no_low is_low first others =
    let is : by ≡ 64 * q + r = move.is in
    let small : r < 64 = move.small in
    record {
      sound = λ j h one. elim (cases_lt j r) [
        | inl below ↦ elim (cases_lt at (q + 1)) [
          | inl none ↦
              let z : bit_at word j ≡ 0 = first j below ∙ ap (λ x. bit_at x (64 - r + j)) (no_low none) ∙ bit_at-zero (64 - r + j) in
              absurd (omega (arith, z, one))
          | inr some ↦
              record {
                below = 64 * (at - (q + 1)) + (64 - r + j);
                is_in = bit_word s (at - (q + 1)) (64 - r + j) (omega arith) ∙ ap (λ x. bit_at x (64 - r + j)) (sym (is_low some)) ∙ sym (first j below) ∙ one;
                moved = omega (arith, is, small, below, some);
              }
        ]
        | inr above ↦ elim (cases_lt at q) [
          | inl none ↦
              let z : bit_at word j ≡ 0 = others j above h ∙ ap (λ x. bit_at x (j - r)) (no_high none) ∙ bit_at-zero (j - r) in
              absurd (omega (arith, z, one))
          | inr some ↦
              record {
                below = 64 * (at - q) + (j - r);
                is_in = bit_word s (at - q) (j - r) (omega arith) ∙ ap (λ x. bit_at x (j - r)) (sym (is_high some)) ∙ sym (others j above h) ∙ one;
                moved = omega (arith, is, small, above, some);
              }
        ]
      ];
      complete = λ j h p.
          let moved : 64 * at + j ≡ p.below + by = p.moved in
          elim (cases_lt j r) [
            | inl below ↦
                let some : q + 1 ≤ at = omega (arith, is, moved, below) in
                let place : 64 * (at - (q + 1)) + (64 - r + j) ≡ p.below = omega (arith, is, moved, below, some, small) in
                first j below ∙ ap (λ x. bit_at x (64 - r + j)) (is_low some) ∙ sym (bit_word s (at - (q + 1)) (64 - r + j) (omega arith)) ∙ ap (bit s) place ∙ p.is_in
            | inr above ↦
                let some : q ≤ at = omega (arith, is, moved, h) in
                let place : 64 * (at - q) + (j - r) ≡ p.below = omega (arith, is, moved, above, some, small) in
                others j above h ∙ ap (λ x. bit_at x (j - r)) (is_high some) ∙ sym (bit_word s (at - q) (j - r) (omega arith)) ∙ ap (bit s) place ∙ p.is_in
          ];
    }

pub lowered_word : (s : List ℕ) (by q r at low high word : ℕ) → Far by q r → low ≡ get_or s (at + q) 0 → high ≡ get_or s (at + (q + 1)) 0
    → ((j : ℕ) → j + r < 64 → bit_at word j ≡ bit_at low (j + r)) → ((j : ℕ) → 64 ≤ j + r → j < 64 → bit_at word j ≡ bit_at high (j + r - 64))
    → WordIs (λ k. In s (k + by)) at word
lowered_word s by q r at low high word move is_low is_high first others =
    let is : by ≡ 64 * q + r = move.is in
    let small : r < 64 = move.small in
    let same : (j : ℕ) → j < 64 → bit_at word j ≡ bit s (64 * at + j + by) = λ j h. elim (cases_lt (j + r) 64) [
      | inl within ↦
          let place : 64 * (at + q) + (j + r) ≡ 64 * at + j + by = omega (arith, is) in
          first j within ∙ ap (λ x. bit_at x (j + r)) is_low ∙ sym (bit_word s (at + q) (j + r) within) ∙ ap (bit s) place
      | inr past ↦
          let place : 64 * (at + (q + 1)) + (j + r - 64) ≡ 64 * at + j + by = omega (arith, is, past) in
          others j past h ∙ ap (λ x. bit_at x (j + r - 64)) is_high ∙ sym (bit_word s (at + (q + 1)) (j + r - 64) (omega arith)) ∙ ap (bit s) place
    ] in
    record { sound = λ j h one. sym (same j h) ∙ one; complete = λ j h i. same j h ∙ i }
