-- Single places of a set.
use Rattle.std.proofs.Common.{◌≡◌, ◌≢◌, ℕ, ◌+◌, ◌-◌, ◌*◌, ◌/◌, ◌%◌, ◌^◌, ◌<◌, ◌≤◌, ◌⊎◌, List, length, get_or, set, sym, ◌∙◌, ap, subst, inl, inr, arith, w64, min, get_or-set_same, get_or-set_other, bit_and, bit_or}
use Rattle.std.specs.Int.{bit_at, trailing_zeros}
use Rattle.std.proofs.lemmas.Bool.{cases_eq, cases_lt}
use Rattle.std.proofs.lemmas.Nat.Bits.{bit_at-zero, bit_at_and, bit_at-lt, bit_at_set_same, bit_at_set_other, shr_and_one, bit_at-trailing_zeros, ones_shl, bit_at_mask_inside, bit_at_mask_below}
use Rattle.mt_places.specs.Places.{In, bit, HasJust, FirstFrom}
use Rattle.mt_places.proofs.Bits.{bit_is, bit_word, bit_past, not_zero}

pub some_in : (s : List ℕ) (w word : ℕ) → word ≡ get_or s w 0 → word < 2 ^ 64 → word ≢ 0 → (k : ℕ) × In s k
some_in s w word e small other =
    let z = bit_at-trailing_zeros w64 word (omega arith) small in
    let j : ℕ = trailing_zeros w64 word in
    (64 * w + j, bit_word s w j z.0 ∙ ap (λ x. bit_at x j) (sym e) ∙ z.1)

pub test_bit : (s : List ℕ) (k word : ℕ) → word ≡ get_or s (k / 64) 0 → bit_and (word / 2 ^ (k % 64)) 1 ≡ bit s k
test_bit s k word e = shr_and_one word (k % 64) ∙ ap (λ w. bit_at w (k % 64)) e ∙ sym (bit_is s k)

abbrev pub with_bit : List ℕ → ℕ → List ℕ
with_bit s k = set s (k / 64) (bit_or (get_or s (k / 64) 0) (1 * 2 ^ (k % 64) % 2 ^ 64))

set_bit : (s : List ℕ) (k : ℕ) → k < 64 * length s → In (with_bit s k) k
set_bit s k h =
    let v : ℕ = bit_or (get_or s (k / 64) 0) (1 * 2 ^ (k % 64) % 2 ^ 64) in
    let w : k / 64 < length s = omega arith in
    bit_is (set s (k / 64) v) k ∙ ap (λ x. bit_at x (k % 64)) (get_or-set_same s (k / 64) v 0 w) ∙ bit_at_set_same w64 (get_or s (k / 64) 0) (k % 64) (omega arith)

set_other : (s : List ℕ) (k : ℕ) → k < 64 * length s → (j : ℕ) → j ≢ k → bit (with_bit s k) j ≡ bit s j
set_other s k h j other =
    let v : ℕ = bit_or (get_or s (k / 64) 0) (1 * 2 ^ (k % 64) % 2 ^ 64) in
    let w : k / 64 < length s = omega arith in
    elim (cases_eq (j / 64) (k / 64)) [
      | inl row ↦
          bit_is (set s (k / 64) v) j ∙ ap (λ x. bit_at (get_or (set s (k / 64) v) x 0) (j % 64)) row ∙ ap (λ x. bit_at x (j % 64)) (get_or-set_same s (k / 64) v 0 w)
          ∙ bit_at_set_other w64 (get_or s (k / 64) 0) (k % 64) (omega arith) (j % 64) (omega arith) ∙ ap (λ x. bit_at (get_or s x 0) (j % 64)) (sym row) ∙ sym (bit_is s j)
      | inr apart ↦ bit_is (set s (k / 64) v) j ∙ ap (λ x. bit_at x (j % 64)) (get_or-set_other s (k / 64) (j / 64) v 0 apart) ∙ sym (bit_is s j)
    ]

pub one_added : (s : List ℕ) (k : ℕ) → k < 64 * length s → HasJust (λ other. In s other ⊎ (other ≡ k)) (with_bit s k)
one_added s k h = record {
  sound = λ j i. elim (cases_eq j k) [ inl same ↦ inr same | inr other ↦ inl (sym (set_other s k h j other) ∙ i) ];
  complete = λ j r lt. elim (cases_eq j k) [
    | inl same ↦ subst (In (with_bit s k)) (sym same) (set_bit s k h)
    | inr other ↦ elim r [ inl old ↦ set_other s k h j other ∙ old | inr same ↦ absurd (other same) ]
  ];
}

-- ## The first place

-- nothing from the place on lies below the word `at`, of which `word` has the bits from the place on
pub record FromHere (s : List ℕ) (place at word : ℕ) : Type 0 where
  pub fits : word < 2 ^ 64
  pub none_below : (k : ℕ) → place ≤ k → k < 64 * at → bit s k ≡ 0
  pub sound : (j : ℕ) → j < 64 → bit_at word j ≡ 1 → In s (64 * at + j) × (place ≤ 64 * at + j)
  pub complete : (j : ℕ) → j < 64 → bit_at word j ≡ 0 → place ≤ 64 * at + j → bit s (64 * at + j) ≡ 0

-- the bits of a word from bit `from` on
masked : (word from j : ℕ) → from < 64 → j < 64 → bit_at (bit_and word ((2 ^ 64 - 1) * 2 ^ from % 2 ^ 64)) j ≡ min (bit_at word j) (bit_at (2 ^ 64 - 2 ^ from) j)
masked word from j h k = ap (λ m. bit_at (bit_and word m) j) (ones_shl 64 from (omega arith)) ∙ bit_at_and word (2 ^ 64 - 2 ^ from) j

pub first_word : (s : List ℕ) (place word new : ℕ) → word ≡ get_or s (place / 64) 0 → new < 2 ^ 64 → new ≡ bit_and word ((2 ^ 64 - 1) * 2 ^ (place % 64) % 2 ^ 64)
    → FromHere s place (place / 64) new
first_word s place word new e fits m =
    let low : place % 64 < 64 = omega arith in
    let bits = λ (j : ℕ) (h : j < 64). ap (λ x. bit_at x j) m ∙ masked word (place % 64) j low h in
    let old = λ (j : ℕ) (h : j < 64). bit_word s (place / 64) j h ∙ ap (λ x. bit_at x j) (sym e) in
    record {
      fits = fits;
      none_below = λ k h l. absurd (omega arith);
      sound = λ j h one.
          let b : bit_at new j ≡ min (bit_at word j) (bit_at (2 ^ 64 - 2 ^ (place % 64)) j) = bits j h in
          let w : bit_at word j < 2 = bit_at-lt word j in
          let n : bit_at (2 ^ 64 - 2 ^ (place % 64)) j < 2 = bit_at-lt (2 ^ 64 - 2 ^ (place % 64)) j in
          let x : bit_at word j ≡ 1 = omega (arith, b, w, n, one) in
          let y : bit_at (2 ^ 64 - 2 ^ (place % 64)) j ≡ 1 = omega (arith, b, w, n, one) in (
            old j h ∙ x,
            elim (cases_lt j (place % 64)) [
              | inl below ↦ let z : bit_at (2 ^ 64 - 2 ^ (place % 64)) j ≡ 0 = bit_at_mask_below (place % 64) 64 j below in absurd (omega (arith, y, z))
              | inr on ↦ omega arith
            ],
          );
      complete = λ j h zero above.
          let b : bit_at new j ≡ min (bit_at word j) (bit_at (2 ^ 64 - 2 ^ (place % 64)) j) = bits j h in
          let w : bit_at word j < 2 = bit_at-lt word j in
          let y : bit_at (2 ^ 64 - 2 ^ (place % 64)) j ≡ 1 = bit_at_mask_inside (place % 64) 64 j (omega arith) h in
          let x : bit_at word j ≡ 0 = omega (arith, b, w, y, zero) in
          old j h ∙ x;
    }

-- a word of zeros is passed
none_through : (s : List ℕ) (place at : ℕ) → FromHere s place at 0 → (k : ℕ) → place ≤ k → k < 64 * (at + 1) → bit s k ≡ 0
none_through s place at f k h l = elim (cases_lt k (64 * at)) [
  | inl below ↦ f.none_below k h below
  | inr here ↦
      let e : 64 * at + k % 64 ≡ k = omega arith in
      let z : bit s (64 * at + k % 64) ≡ 0 = f.complete (k % 64) (omega arith) (bit_at-zero (k % 64)) (omega arith) in
      ap (bit s) (sym e) ∙ z
]

pub next_word : (s : List ℕ) (place at old new : ℕ) → old ≡ 0 → FromHere s place at old → new ≡ get_or s (at + 1) 0 → new < 2 ^ 64 → place < 64 * (at + 1)
    → FromHere s place (at + 1) new
next_word s place at old new z f e fits past =
    let g = subst (FromHere s place at) z f in
    let is = λ (j : ℕ) (h : j < 64). bit_word s (at + 1) j h ∙ ap (λ x. bit_at x j) (sym e) in
    record {
      fits = fits;
      none_below = none_through s place at g;
      sound = λ j h one. (is j h ∙ one, omega arith);
      complete = λ j h zero above. is j h ∙ zero;
    }

pub none_from : (s : List ℕ) (place at old : ℕ) → old ≡ 0 → FromHere s place at old → at + 1 ≡ length s → (k : ℕ) → place ≤ k → In s k → ⊥
none_from s place at old z f end k h one = elim (cases_lt k (64 * (at + 1))) [
  | inl below ↦ not_zero s k (none_through s place at (subst (FromHere s place at) z f) k h below) one
  | inr past ↦ not_zero s k (bit_past s k (omega arith)) one
]

pub first_place : (s : List ℕ) (place at word : ℕ) → FromHere s place at word → word ≢ 0 → FirstFrom s place (64 * at + trailing_zeros w64 word)
first_place s place at word f some =
    let z = bit_at-trailing_zeros w64 word (omega arith) f.fits in
    let j : ℕ = trailing_zeros w64 word in
    let here = f.sound j z.0 z.1 in
    record {
      from = here.1;
      is_in = here.0;
      none_before = λ k h l one. elim (cases_lt k (64 * at)) [
        | inl below ↦ not_zero s k (f.none_below k h below) one
        | inr there ↦
            let e : 64 * at + k % 64 ≡ k = omega (arith, z.0) in
            let low : k % 64 < trailing_zeros w64 word = omega (arith, z.0) in
            let y : bit s (64 * at + k % 64) ≡ 0 = f.complete (k % 64) (omega arith) (z.2 (k % 64) low) (omega arith) in
            not_zero s k (ap (bit s) (sym e) ∙ y) one
      ];
    }
