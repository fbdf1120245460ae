-- The ones of a word, as marks of its bits.
use Rattle.std.proofs.Common.{◌≡◌, ℕ, zero, suc, ◌+◌, ◌/◌, ◌%◌, ◌^◌, ◌<◌, Bool, count_ones, refl, ◌∙◌, ap, arith}
use Rattle.std.specs.Prelude.{◌==◌}
use Rattle.std.specs.Int.{bit_at}
use Rattle.std.proofs.lemmas.Nat.{ones_le_self}
use Rattle.std.proofs.lemmas.Nat.Bits.{bit_at-suc, bit_at_lowest}
use lib.Count.{ones_step}
use native.Mathlib.Nat.{pow-suc}
use Rattle.mt_tally.specs.Counts.{marked_from}
use Rattle.mt_tally.proofs.Marked.{one_if, one_mark, no_marks}

-- the bits of a word, from the one with this number on, as marks from any number on
bits_from : (word first many : ℕ) (marks : ℕ → Bool) → ((j : ℕ) → j < many → marks (first + j) ≡ (bit_at word j == 1)) → word < 2 ^ many → count_ones word ≡ marked_from marks first many
bits_from word first zero marks same low =
    let none = no_marks marks first in
    let few = ones_le_self word in
    omega (arith, none, few, low)
bits_from word first (suc more) marks same low =
    let one = one_mark marks first more in
    let step = ones_step word in
    let here : marks first ≡ (word % 2 == 1) = ap marks (let e : first ≡ first + 0 = omega arith in e) ∙ same 0 (omega arith) ∙ ap (λ (b : ℕ). b == 1) (bit_at_lowest word) in
    let rest = bits_from (word / 2) (first + 1) more marks (λ j l. ap marks (let e : first + 1 + j ≡ first + suc j = omega arith in e) ∙ same (suc j) (omega (arith, l)) ∙ ap (λ (b : ℕ). b == 1) (bit_at-suc word j)) (omega (arith, low, pow-suc 2 more)) in
    let digit = by_digit (word % 2) (omega arith) in
    let mark = ap one_if here in
    omega (arith, one, step, rest, digit, mark)
  where
    by_digit : (d : ℕ) → d < 2 → one_if (d == 1) ≡ d
    by_digit zero l = refl
    by_digit (suc zero) l = refl
    by_digit (suc (suc d)) l = absurd (omega (arith, l))

pub ones_are : (word first : ℕ) (marks : ℕ → Bool) → word < 2 ^ 64 → ((j : ℕ) → j < 64 → marks (first + j) ≡ (bit_at word j == 1)) → count_ones word ≡ marked_from marks first 64
ones_are word first marks low same = bits_from word first 64 marks same low
