-- What operations on words do to the places of a set.
use Rattle.std.proofs.Common.{◌≡◌, ◌≢◌, ℕ, ◌+◌, ◌-◌, ◌*◌, ◌/◌, ◌%◌, ◌^◌, ◌<◌, ◌≤◌, ◌⊎◌, List, length, get_or, set, refl, sym, ◌∙◌, ap, subst, inl, inr, arith, w64, min, max, get_or-set_same, get_or-set_other, length-set, bit_and, bit_or}
use Rattle.std.specs.Int.{bit_at, bit_not}
use Rattle.std.proofs.lemmas.List.{get_or_past}
use Rattle.std.proofs.lemmas.Bool.{cases_eq, cases_lt}
use Rattle.std.proofs.lemmas.Nat.Bits.{bit_at-zero, bit_at_and, bit_at_or, bit_at_not, bit_at-lt, bit_at_ones, bit_at_ones_above}
use Rattle.mt_places.specs.Places.{In, bit, room, WordIs, HasJust}

pub bit_is : (s : List ℕ) (k : ℕ) → bit s k ≡ bit_at (get_or s (k / 64) 0) (k % 64)
unfolding bit
bit_is s k = refl

pub bit_lt : (s : List ℕ) (k : ℕ) → bit s k < 2
unfolding bit
bit_lt s k = bit_at-lt (get_or s (k / 64) 0) (k % 64)

pub bit_word : (s : List ℕ) (w j : ℕ) → j < 64 → bit s (64 * w + j) ≡ bit_at (get_or s w 0) j
bit_word s w j h =
    let d : (64 * w + j) / 64 ≡ w = omega arith in
    let m : (64 * w + j) % 64 ≡ j = omega arith in
    bit_is s (64 * w + j) ∙ ap (λ x. bit_at (get_or s x 0) ((64 * w + j) % 64)) d ∙ ap (bit_at (get_or s w 0)) m

pub bit_past : (s : List ℕ) (k : ℕ) → 64 * length s ≤ k → bit s k ≡ 0
bit_past s k h =
    let p : length s ≤ k / 64 = omega arith in
    bit_is s k ∙ ap (λ w. bit_at w (k % 64)) (get_or_past s (k / 64) 0 p) ∙ bit_at-zero (k % 64)

-- what is in a set lies in its room
pub in_room : (s : List ℕ) (k : ℕ) → In s k → k < room s
in_room s k h = elim (cases_lt k (64 * length s)) [
  | inl lt ↦ lt
  | inr past ↦ let z : bit s k ≡ 0 = bit_past s k past in absurd (omega arith)
]

pub not_zero : (s : List ℕ) (k : ℕ) → bit s k ≡ 0 → In s k → ⊥
not_zero s k z one = let two : bit s k ≡ 1 = one in omega (arith, z, two)

whole : (k : ℕ) → 64 * (k / 64) + k % 64 ≡ k
whole k = omega arith

-- ## What each word says, the set says

pub just : (P : ℕ → Type 0) (s : List ℕ) → ((at : ℕ) → at < length s → WordIs P at (get_or s at 0)) → HasJust P s
just P s words = record {
  sound = λ k h.
      let lt : k < 64 * length s = in_room s k h in
      subst P (whole k) ((words (k / 64) (omega arith)).sound (k % 64) (omega arith) (sym (bit_is s k) ∙ h));
  complete = λ k p lt. bit_is s k ∙ (words (k / 64) (omega arith)).complete (k % 64) (omega arith) (subst P (sym (whole k)) p);
}

-- a word of a set says what is in it
pub own_word : (s : List ℕ) (at : ℕ) → WordIs (In s) at (get_or s at 0)
own_word s at = record { sound = λ j h one. bit_word s at j h ∙ one; complete = λ j h i. sym (bit_word s at j h) ∙ i }

-- so does that word by another name
pub first_word : (s : List ℕ) (at word : ℕ) → word ≡ get_or s at 0 → WordIs (In s) at word
first_word s at word e = subst (WordIs (In s) at) (sym e) (own_word s at)

pub none_in : (s : List ℕ) → ((j : ℕ) → j < length s → get_or s j 0 ≡ 0) → (k : ℕ) → In s k → ⊥
none_in s words k one = elim (cases_lt (k / 64) (length s)) [
  | inl within ↦ not_zero s k (bit_is s k ∙ ap (λ w. bit_at w (k % 64)) (words (k / 64) within) ∙ bit_at-zero (k % 64)) one
  | inr past ↦ not_zero s k (bit_past s k (omega arith)) one
]

-- ## Two words as one

pub either_word : (P Q : ℕ → Type 0) (at a b : ℕ) → WordIs P at a → WordIs Q at b → WordIs (λ k. P k ⊎ Q k) at (bit_or a b)
either_word P Q at a b p q = record {
  sound = λ j h one.
      let e : bit_at (bit_or a b) j ≡ max (bit_at a j) (bit_at b j) = bit_at_or a b j in
      let x : bit_at a j < 2 = bit_at-lt a j in
      let y : bit_at b j < 2 = bit_at-lt b j in
      elim (cases_eq (bit_at a j) 1) [ inl of_a ↦ inl (p.sound j h of_a) | inr other ↦ inr (q.sound j h (omega (arith, e, x, y, one, other))) ];
  complete = λ j h r.
      let e : bit_at (bit_or a b) j ≡ max (bit_at a j) (bit_at b j) = bit_at_or a b j in
      let x : bit_at a j < 2 = bit_at-lt a j in
      let y : bit_at b j < 2 = bit_at-lt b j in
      elim r [
        | inl left ↦ let o : bit_at a j ≡ 1 = p.complete j h left in omega (arith, e, x, y, o)
        | inr right ↦ let o : bit_at b j ≡ 1 = q.complete j h right in omega (arith, e, x, y, o)
      ];
}

pub both_word : (P Q : ℕ → Type 0) (at a b : ℕ) → WordIs P at a → WordIs Q at b → WordIs (λ k. P k × Q k) at (bit_and a b)
both_word P Q at a b p q = record {
  sound = λ j h one.
      let e : bit_at (bit_and a b) j ≡ min (bit_at a j) (bit_at b j) = bit_at_and a b j in
      let x : bit_at a j < 2 = bit_at-lt a j in
      let y : bit_at b j < 2 = bit_at-lt b j in
      (p.sound j h (omega (arith, e, x, y, one)), q.sound j h (omega (arith, e, x, y, one)));
  complete = λ j h r.
      let e : bit_at (bit_and a b) j ≡ min (bit_at a j) (bit_at b j) = bit_at_and a b j in
      let x : bit_at a j ≡ 1 = p.complete j h r.0 in
      let y : bit_at b j ≡ 1 = q.complete j h r.1 in omega (arith, e, x, y);
}

-- the places that a word does not name
pub other_word : (Q : ℕ → Type 0) (at b : ℕ) → b < 2 ^ 64 → WordIs Q at b → WordIs (λ k. Q k → ⊥) at (bit_not w64 b)
other_word Q at b small q = record {
  sound = λ j h one yes.
      let e : bit_at (bit_not w64 b) j ≡ 1 - bit_at b j = bit_at_not w64 b j small h in
      let o : bit_at b j ≡ 1 = q.complete j h yes in omega (arith, e, o, one);
  complete = λ j h no.
      let e : bit_at (bit_not w64 b) j ≡ 1 - bit_at b j = bit_at_not w64 b j small h in
      let y : bit_at b j < 2 = bit_at-lt b j in
      elim (cases_eq (bit_at b j) 1) [ inl is ↦ absurd (no (q.sound j h is)) | inr other ↦ omega (arith, e, y, other) ];
}

pub without_word : (P Q : ℕ → Type 0) (at a b : ℕ) → b < 2 ^ 64 → WordIs P at a → WordIs Q at b → WordIs (λ k. P k × (Q k → ⊥)) at (bit_and a (bit_not w64 b))
without_word P Q at a b small p q = both_word P (λ k. Q k → ⊥) at a (bit_not w64 b) p (other_word Q at b small q)

-- ## A word after another

pub one_more : (P : ℕ → Type 0) (s : List ℕ) (at word : ℕ) → at < length s → ((j : ℕ) → j < at → WordIs P j (get_or s j 0)) → WordIs P at word
    → (j : ℕ) → j < at + 1 → WordIs P j (get_or (set s at word) j 0)
one_more P s at word within done new j lt = elim (cases_eq j at) [
  | inl same ↦ subst (λ x. WordIs P x (get_or (set s at word) x 0)) (sym same) (subst (WordIs P at) (sym (get_or-set_same s at word 0 within)) new)
  | inr other ↦ subst (WordIs P j) (sym (get_or-set_other s at j word 0 other)) (done j (omega (arith, lt, other)))
]

pub one_before : (P : ℕ → Type 0) (s : List ℕ) (at word : ℕ) → at < length s → ((j : ℕ) → at + 1 ≤ j → j < length s → WordIs P j (get_or s j 0)) → WordIs P at word
    → (j : ℕ) → at ≤ j → j < length (set s at word) → WordIs P j (get_or (set s at word) j 0)
one_before P s at word within done new j low lt = elim (cases_eq j at) [
  | inl same ↦ subst (λ x. WordIs P x (get_or (set s at word) x 0)) (sym same) (subst (WordIs P at) (sym (get_or-set_same s at word 0 within)) new)
  | inr other ↦ subst (WordIs P j) (sym (get_or-set_other s at j word 0 other)) (done j (omega (arith, low, other)) (omega (arith, lt, length-set s at word)))
]

pub rest_above : (s first : List ℕ) (at word : ℕ) → ((j : ℕ) → at ≤ j → get_or s j 0 ≡ get_or first j 0) → (j : ℕ) → at + 1 ≤ j → get_or (set s at word) j 0 ≡ get_or first j 0
rest_above s first at word rest j lt = let other : j ≢ at = omega arith in get_or-set_other s at j word 0 other ∙ rest j (omega arith)

pub rest_below : (s first : List ℕ) (at word : ℕ) → ((j : ℕ) → j < at + 1 → get_or s j 0 ≡ get_or first j 0) → (j : ℕ) → j < at → get_or (set s at word) j 0 ≡ get_or first j 0
rest_below s first at word rest j lt = let other : j ≢ at = omega arith in get_or-set_other s at j word 0 other ∙ rest j (omega arith)

-- ## The places below a number

pub all_below : (end at : ℕ) → at < end / 64 → WordIs (λ k. k < end) at (2 ^ 64 - 1)
all_below end at full = record { sound = λ j h one. omega arith; complete = λ j h p. bit_at_ones 64 j h }

pub none_below : (end at : ℕ) → end / 64 < at → WordIs (λ k. k < end) at 0
none_below end at past = record { sound = λ j h one. let z : bit_at 0 j ≡ 0 = bit_at-zero j in absurd (omega (arith, z, one)); complete = λ j h p. absurd (omega arith) }

pub some_below : (end at : ℕ) → at ≡ end / 64 → WordIs (λ k. k < end) at (2 ^ (end % 64) - 1)
some_below end at e = record {
  sound = λ j h one. elim (cases_lt j (end % 64)) [
    | inl low ↦ omega arith
    | inr high ↦ let z : bit_at (2 ^ (end % 64) - 1) j ≡ 0 = bit_at_ones_above (end % 64) j high in absurd (omega (arith, z, one))
  ];
  complete = λ j h p. bit_at_ones (end % 64) j (omega arith);
}
