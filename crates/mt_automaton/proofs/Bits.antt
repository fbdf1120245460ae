-- What words of 64 places say of a set.
use Rattle.std.proofs.Common.{◌≡◌, ℕ, ◌-◌, ◌*◌, ◌/◌, ◌%◌, ◌^◌, ◌<◌, ◌≤◌, List, length, inl, inr, ◌∙◌, ap, arith, w64, min, bit_and}
use Rattle.std.specs.Int.{bit_at, bit_not}
use Rattle.std.proofs.lemmas.List.{get_or_past}
use Rattle.std.proofs.lemmas.Bool.{cases_eq, cases_lt}
use Rattle.std.proofs.lemmas.Nat.Bits.{bit_at-zero, bit_at_and, bit_at_not, bit_at-lt}
use Rattle.mt_places.specs.Places.{In, bit, room, WordIs}

past : (s : List ℕ) (k : ℕ) → 64 * length s ≤ k → bit s k ≡ 0
unfolding bit
past s k h =
    let p : length s ≤ k / 64 = omega arith in
    ap (λ w. bit_at w (k % 64)) (get_or_past s (k / 64) 0 p) ∙ bit_at-zero (k % 64)

-- what is in a set lies in its room
pub in_room : (s : List ℕ) (k : ℕ) → In s k → k < room s
in_room s k h = elim (cases_lt k (64 * length s)) [ inl lt ↦ lt | inr over ↦ let z : bit s k ≡ 0 = past s k over in absurd (omega arith) ]

-- the places that both of two words name
pub both_word : (P Q : ℕ → Type 0) (at a b : ℕ) → WordIs P at a → WordIs Q at b → WordIs (λ k. P k × Q k) at (bit_and a b)
both_word P Q at a b p q = record {
  sound = λ j h one.
      let e : bit_at (bit_and a b) j ≡ min (bit_at a j) (bit_at b j) = bit_at_and a b j in
      let x : bit_at a j < 2 = bit_at-lt a j in
      let y : bit_at b j < 2 = bit_at-lt b j in
      (p.sound j h (omega (arith, e, x, y, one)), q.sound j h (omega (arith, e, x, y, one)));
  complete = λ j h r.
      let e : bit_at (bit_and a b) j ≡ min (bit_at a j) (bit_at b j) = bit_at_and a b j in
      let x : bit_at a j ≡ 1 = p.complete j h r.0 in
      let y : bit_at b j ≡ 1 = q.complete j h r.1 in omega (arith, e, x, y);
}

-- the places that a word does not name
other_word : (Q : ℕ → Type 0) (at b : ℕ) → b < 2 ^ 64 → WordIs Q at b → WordIs (λ k. Q k → ⊥) at (bit_not w64 b)
other_word Q at b small q = record {
  sound = λ j h one yes.
      let e : bit_at (bit_not w64 b) j ≡ 1 - bit_at b j = bit_at_not w64 b j small h in
      let o : bit_at b j ≡ 1 = q.complete j h yes in omega (arith, e, o, one);
  complete = λ j h no.
      let e : bit_at (bit_not w64 b) j ≡ 1 - bit_at b j = bit_at_not w64 b j small h in
      let y : bit_at b j < 2 = bit_at-lt b j in
      elim (cases_eq (bit_at b j) 1) [ inl is ↦ absurd (no (q.sound j h is)) | inr other ↦ omega (arith, e, y, other) ];
}

-- the places that one word names and another does not
pub without_word : (P Q : ℕ → Type 0) (at a b : ℕ) → b < 2 ^ 64 → WordIs P at a → WordIs Q at b → WordIs (λ k. P k × (Q k → ⊥)) at (bit_and a (bit_not w64 b))
without_word P Q at a b small p q = both_word P (λ k. Q k → ⊥) at a (bit_not w64 b) p (other_word Q at b small q)
