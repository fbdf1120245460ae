-- Numbers and words in a text.
use Rattle.std.proofs.Common.{ℕ, zero, suc, ◌+◌, ◌^◌, ◌≡◌, ◌<◌, ◌≤◌, ◌⊎◌, inl, inr, Bool, true, List, [], ◌∷◌, refl, sym, ◌∙◌, ap, arith, length, drop, take, get_or, add-one}
use Rattle.std.specs.List.{AllPass, prefix_len}
use Rattle.std.specs.Char.{is_ascii_digit}
use Rattle.std.proofs.lemmas.Bool.Decides.{nat_tests}
use Rattle.std.proofs.lemmas.List.{get_or-take, length-drop, length-take}
use Rattle.std.proofs.lemmas.List.Sums.{prefix_len_passes, prefix_len-le-length}
use Rattle.std.proofs.lemmas.Grind.{get_or_after_one}
use Rattle.std.proofs.Math.Nat.{pow-le-pow_right}
use Rattle.mt_text_spec.specs.Words.{is_identifier_start, is_identifier_byte}

pub digit_range : (b : ℕ) → is_ascii_digit b ≡ true → (48 ≤ b) × (b ≤ 57)
digit_range b h = (grind (arith, nat_tests), grind (arith, nat_tests))

pub word_ascii : (b : ℕ) → is_identifier_byte b ≡ true → b < 128
word_ascii b h = grind (arith, nat_tests)

pub start_ascii : (b : ℕ) → is_identifier_start b ≡ true → b < 128
start_ascii b h = grind (arith, nat_tests)

-- the first byte, or one of those behind it
first_or_behind : (P : ℕ → Bool) (text : List ℕ) (n k d : ℕ) → n ≡ prefix_len P (drop 1 text) → k ≤ n → (k ≡ 0) ⊎ (P (get_or text k d) ≡ true)
first_or_behind P text n zero d e h = inl refl
first_or_behind P text n (suc k) d e h =
    inr (ap P (sym (get_or_after_one text k d ∙ ap (λ i. get_or text i d) (let s : 1 + k ≡ suc k = omega arith in s))) ∙ prefix_len_passes P (drop 1 text) k d (omega (arith, e)))

-- where a word ends, or the last byte of it
pub record LastOf (text : List ℕ) (n : ℕ) : Type 0 where
  pub within : n < length text
  pub ascii : get_or text n 0 < 128

pub word_last : (text : List ℕ) (n : ℕ) → n ≡ prefix_len is_identifier_byte (drop 1 text) → 0 < length text → is_identifier_start (get_or text 0 0) ≡ true → LastOf text n
word_last text n e some start = record {
  within = omega (arith, e, prefix_len-le-length is_identifier_byte (drop 1 text), length-drop 1 text);
  ascii = elim (first_or_behind is_identifier_byte text n n 0 e (omega arith)) [
    | inl z ↦ start_ascii (get_or text n 0) (ap (λ i. is_identifier_start (get_or text i 0)) z ∙ start)
    | inr w ↦ word_ascii (get_or text n 0) w
  ];
}

pub number_within : (text : List ℕ) (n : ℕ) → n ≡ prefix_len is_ascii_digit (drop 1 text) → 0 < length text → n + 1 ≤ length text
number_within text n e some = omega (arith, e, prefix_len-le-length is_ascii_digit (drop 1 text), length-drop 1 text)

first_digit : (text : List ℕ) (k d : ℕ) → 0 < length text → is_ascii_digit (get_or text 0 0) ≡ true → k ≡ 0 → is_ascii_digit (get_or text k d) ≡ true
first_digit [] k d some h z = absurd (omega arith)
first_digit (b ∷ text) k d some h z = ap (λ i. is_ascii_digit (get_or (b ∷ text) i d)) z ∙ h

pub number_digits : (text : List ℕ) (n : ℕ) → n ≡ prefix_len is_ascii_digit (drop 1 text) → 0 < length text → is_ascii_digit (get_or text 0 0) ≡ true
    → AllPass is_ascii_digit (take (n + 1) text)
number_digits text n e some first k d h =
    let l : k < n + 1 = omega (arith, h, length-take (n + 1) text) in
    ap is_ascii_digit (get_or-take (n + 1) text k d l) ∙ elim (first_or_behind is_ascii_digit text n k d e (omega arith)) [
      | inl z ↦ first_digit text k d some first z
      | inr w ↦ w
    ]

pub taken_front : (text : List ℕ) (n : ℕ) → 0 < length text → take (n + 1) text ≡ get_or text 0 0 ∷ take n (drop 1 text)
taken_front [] n h = absurd (omega arith)
taken_front (b ∷ text) n h = ap (λ m. take m (b ∷ text)) (add-one n)

-- ## The value of digits

pub value_bound : (i v : ℕ) → i < 9 → v + 1 ≤ 10 ^ i → v < 10 ^ 8
value_bound i v h b = let p : 10 ^ i ≤ 10 ^ 8 = pow-le-pow_right {n = 10} (omega arith) {i = i} {j = 8} (omega arith) in omega arith
