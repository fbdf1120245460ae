-- The text of a score, as it lies at the end of a buffer.
use Rattle.std.proofs.Common.{◌≡◌, ℕ, ◌+◌, ◌-◌, ◌*◌, ◌/◌, ◌%◌, ◌≤◌, true, false, List, [], ◌∷◌, ◌++◌, length, take, drop, set, ℤ, pos, negsuc, sym, ◌∙◌, ap, arith}
use Rattle.std.proofs.Math.IntN.{nat_abs}
use Rattle.std.proofs.Math.Nat.{div-div-eq-div-mul}
use Rattle.std.proofs.lemmas.List.{take_rest, drop-set}
use Rattle.std.specs.Int.Signed.{lt_z}
use Rattle.std.specs.Fmt.{decimal}
use Rattle.mt_sketch_spec.specs.Score.{last_digits, unsigned_text, sixteenths_text}

four_digits : (n t u v w : ℕ) → t ≡ 48 + n / 1000 % 10 → u ≡ 48 + n / 100 % 10 → v ≡ 48 + n / 10 % 10 → w ≡ 48 + n % 10 → t ∷ u ∷ v ∷ w ∷ [] ≡ last_digits 4 n
four_digits n t u v w h i j k =
    let hundreds : n / 10 / 10 ≡ n / 100 = div-div-eq-div-mul n 10 10 in
    rw hundreds (rw (div-div-eq-div-mul n 100 10) cc)

pub of_size : (size whole t u v w : ℕ) → whole ≡ size / 16 → t ≡ 48 + size % 16 * 625 / 1000 % 10 → u ≡ 48 + size % 16 * 625 / 100 % 10 → v ≡ 48 + size % 16 * 625 / 10 % 10 → w ≡ 48 + size % 16 * 625 % 10 →
    decimal whole ++ 46 ∷ t ∷ u ∷ v ∷ w ∷ [] ≡ unsigned_text size
of_size size whole t u v w is h i j k =
    ap (λ x. decimal x ++ 46 ∷ t ∷ u ∷ v ∷ w ∷ []) is ∙ ap (λ x. decimal (size / 16) ++ 46 ∷ x) (four_digits (size % 16 * 625) t u v w h i j k)

negative : (k : ℤ) → lt_z k (pos 0) ≡ true → 45 ∷ unsigned_text (nat_abs k) ≡ sixteenths_text k
negative (pos n) h = absurd (grind arith)
negative (negsuc n) h = ap (λ x. 45 ∷ unsigned_text x) (omega arith)

pub with_no_sign : (k : ℤ) (size : ℕ) → lt_z k (pos 0) ≡ false → size ≡ nat_abs k → unsigned_text size ≡ sixteenths_text k
with_no_sign (pos n) size h is = ap unsigned_text is
with_no_sign (negsuc n) size h is = cc

-- the sign goes in front of what is there
pub with_sign : (k : ℤ) (size start : ℕ) (text : List ℕ) → lt_z k (pos 0) ≡ true → size ≡ nat_abs k → drop start text ≡ unsigned_text size → 1 ≤ start → start ≤ length text →
    drop (start - 1) (set text (start - 1) 45) ≡ sixteenths_text k
with_sign k size start text h is written low high =
    drop-set text (start - 1) 45 (omega arith) ∙ ap (λ i. 45 ∷ drop i text) (omega arith) ∙ ap (λ x. 45 ∷ x) (written ∙ ap unsigned_text is) ∙ negative k h

-- all that lies from there on
pub to_the_end : (text bytes : List ℕ) (start size : ℕ) → length text ≡ size → drop start text ≡ bytes → take (size - start) (drop start text) ≡ bytes
to_the_end text bytes start size is written = ap (λ n. take (n - start) (drop start text)) (sym is) ∙ take_rest text start ∙ written
