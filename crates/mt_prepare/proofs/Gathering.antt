-- Words into which bits are gathered, one place after another.
use Rattle.std.proofs.Common.{◌≡◌, ℕ, ◌+◌, ◌-◌, ◌*◌, ◌/◌, ◌%◌, ◌^◌, ◌<◌, ◌≤◌, Bool, true, false, List, [], ◌∷◌, ◌++◌, length, get_or, refl, sym, ◌∙◌, ap, subst, inl, inr, arith, max, bit_or}
use mir.Val.{bool_byte}
use Rattle.std.specs.Int.{bit_at}
use Rattle.std.proofs.lemmas.Bool.{cases_eq, cases_lt}
use Rattle.std.proofs.Math.ListN.{get_or-append}
use Rattle.std.proofs.Math.Seq.{get_or-append_seam}
use Rattle.std.proofs.lemmas.Nat.{pow_pos}
use Rattle.std.proofs.lemmas.Nat.Bits.{bit_at-zero, bit_at_lowest, bit_at_or, bit_at_above, bit_at_cat_low, bit_at_cat_high}
use Rattle.mt_places.specs.Places.{In, WordIs, HasJust}
use Rattle.mt_places.proofs.Bits.{just}
use Rattle.mt_prepare.specs.TestRows.{IsRow}

-- ## Bits of a word

-- the bits of a word say of which places from `place` on, as far as they lie before `end`, P holds
pub record Gathered (P : ℕ → Type 0) (place end word : ℕ) : Type 0 where
  pub sound : (j : ℕ) → bit_at word j ≡ 1 → P (place + j)
  pub complete : (j : ℕ) → place + j < end → P (place + j) → bit_at word j ≡ 1

-- the bits of a remainder
rem : (x j : ℕ) → j < 64 → bit_at (x % 2 ^ 64) j ≡ bit_at x j
rem x j h =
    let e : x / 2 ^ 64 * 2 ^ 64 + x % 2 ^ 64 ≡ x = omega arith in
    sym (bit_at_cat_low (x / 2 ^ 64) 64 (x % 2 ^ 64) j h) ∙ ap (λ y. bit_at y j) e

-- a word moved up by one, with a new lowest bit
abbrev pub with_lowest : (word : ℕ) (low : Bool) → ℕ
with_lowest word low = bit_or (word * 2 ^ 1 % 2 ^ 64) (bool_byte low)

one_bit : (low : Bool) → bool_byte low < 2
one_bit true = omega arith
one_bit false = omega arith

or_bits : (word : ℕ) (low : Bool) (j : ℕ) → bit_at (with_lowest word low) j ≡ max (bit_at (word * 2 ^ 1 % 2 ^ 64) j) (bit_at (bool_byte low) j)
or_bits word low j = bit_at_or (word * 2 ^ 1 % 2 ^ 64) (bool_byte low) j

lowest : (word : ℕ) (low : Bool) → bit_at (with_lowest word low) 0 ≡ bool_byte low
lowest word low =
    let plain : word * 2 ^ 1 ≡ word * 2 ^ 1 + 0 = omega arith in
    let a : bit_at (word * 2 ^ 1 % 2 ^ 64) 0 ≡ 0 = rem (word * 2 ^ 1) 0 (omega arith) ∙ ap (λ y. bit_at y 0) plain ∙ bit_at_cat_low word 1 0 0 (omega arith) ∙ bit_at-zero 0 in
    let b : bit_at (bool_byte low) 0 ≡ bool_byte low % 2 = bit_at_lowest (bool_byte low) in
    omega (arith, a, b, or_bits word low 0, one_bit low)

higher : (word : ℕ) (low : Bool) (j : ℕ) → 1 ≤ j → j < 64 → bit_at (with_lowest word low) j ≡ bit_at word (j - 1)
higher word low j from within =
    let plain : word * 2 ^ 1 ≡ word * 2 ^ 1 + 0 = omega arith in
    let a : bit_at (word * 2 ^ 1 % 2 ^ 64) j ≡ bit_at word (j - 1) = rem (word * 2 ^ 1) j within ∙ ap (λ y. bit_at y j) plain ∙ bit_at_cat_high word 1 0 j (pow_pos 1) from in
    let b : bit_at (bool_byte low) j ≡ 0 = bit_at_above (bool_byte low) 1 j (one_bit low) from in
    omega (arith, a, b, or_bits word low j)

-- there is no bit from 64 on
past : (word : ℕ) (low : Bool) (j : ℕ) → 64 ≤ j → bit_at (with_lowest word low) j ≡ 0
past word low j from =
    let a : bit_at (word * 2 ^ 1 % 2 ^ 64) j ≡ 0 = bit_at_above (word * 2 ^ 1 % 2 ^ 64) 64 j (omega arith) from in
    let b : bit_at (bool_byte low) j ≡ 0 = bit_at_above (bool_byte low) 1 j (one_bit low) (omega arith) in
    omega (arith, a, b, or_bits word low j)

is_one : (low : Bool) → bool_byte low ≡ 1 → low ≡ true
is_one true e = refl
is_one false e = absurd (omega (arith, e))

pub none_gathered : (P : ℕ → Type 0) (place end : ℕ) → end ≤ place → Gathered P place end 0
none_gathered P place end le = record {
  sound = λ j one. let z : bit_at 0 j ≡ 0 = bit_at-zero j in absurd (omega (arith, z, one));
  complete = λ j lt p. absurd (omega (arith, le, lt));
}

-- one place before those that are gathered
pub one_gathered : (P : ℕ → Type 0) (place end word : ℕ) (low : Bool) → end ≤ place + 64 → (low ≡ true → P place) → (P place → low ≡ true) → Gathered P (place + 1) end word
    → Gathered P place end (with_lowest word low)
one_gathered P place end word low near on back was = record {
  sound = λ j one. elim (cases_lt j 1) [
    | inl first ↦
        let z : j ≡ 0 = omega (arith, first) in
        let same : place ≡ place + j = omega (arith, z) in
        subst P same (on (is_one low (sym (lowest word low) ∙ ap (bit_at (with_lowest word low)) (sym z) ∙ one)))
    | inr later ↦ elim (cases_lt j 64) [
      | inl within ↦
          let same : place + 1 + (j - 1) ≡ place + j = omega (arith, later) in
          subst P same (was.sound (j - 1) (sym (higher word low j later within) ∙ one))
      | inr over ↦ let z : bit_at (with_lowest word low) j ≡ 0 = past word low j over in absurd (omega (arith, z, one))
    ]
  ];
  complete = λ j lt p. elim (cases_lt j 1) [
    | inl first ↦
        let z : j ≡ 0 = omega (arith, first) in
        let same : place + j ≡ place = omega (arith, z) in
        ap (bit_at (with_lowest word low)) z ∙ lowest word low ∙ ap bool_byte (back (subst P same p))
    | inr later ↦
        let same : place + j ≡ place + 1 + (j - 1) = omega (arith, later) in
        higher word low j later (omega (arith, lt, near)) ∙ was.complete (j - 1) (omega (arith, lt, later)) (subst P same p)
  ];
}

pub gathered_word : (P : ℕ → Type 0) (at word : ℕ) → Gathered P (64 * at) (64 * at + 64) word → WordIs P at word
gathered_word P at word all = record { sound = λ j h one. all.sound j one; complete = λ j h p. all.complete j (omega (arith, h)) p }

-- ## Words of a row

-- one word more
pub one_pushed : (P : ℕ → Type 0) (words : List ℕ) (at word : ℕ) → length words ≡ at → ((j : ℕ) → j < at → WordIs P j (get_or words j 0)) → WordIs P at word
    → (j : ℕ) → j < at + 1 → WordIs P j (get_or (words ++ word ∷ []) j 0)
one_pushed P words at word size done new j lt = elim (cases_eq j at) [
  | inl same ↦
      let e : get_or (words ++ word ∷ []) j 0 ≡ word = ap (λ k. get_or (words ++ word ∷ []) k 0) (same ∙ sym size) ∙ get_or-append_seam words word [] 0 in
      subst (λ k. WordIs P k (get_or (words ++ word ∷ []) j 0)) (sym same) (subst (WordIs P at) (sym e) new)
  | inr other ↦ subst (WordIs P j) (sym (get_or-append words (word ∷ []) 0 j (omega (arith, lt, other, size)))) (done j (omega (arith, lt, other)))
]

pub words_row : (tokens : ℕ) (P : ℕ → Type 0) (words : List ℕ) → length words ≡ tokens / 64 + 1
    → ((j : ℕ) → j < tokens / 64 + 1 → WordIs (λ place. (place < tokens) × P place) j (get_or words j 0)) → IsRow tokens P words
words_row tokens P words size done = record {
  width = size;
  places = just (λ place. (place < tokens) × P place) words (λ j lt. done j (omega (arith, lt, size)));
}

-- a row that has the places of another one
pub row_of_words : (tokens : ℕ) (P : ℕ → Type 0) (words held row : List ℕ) → held ≡ words → IsRow tokens P words → length row ≡ tokens / 64 + 1 → HasJust (In held) row → IsRow tokens P row
row_of_words tokens P words held row e is size just = let now : HasJust (In words) row = subst (λ s. HasJust (In s) row) e just in record {
  width = size;
  places = record {
    sound = λ k i. is.places.sound k (now.sound k i);
    complete = λ k p lt. now.complete k (is.places.complete k p (omega (arith, lt, size, is.width))) lt;
  };
}
