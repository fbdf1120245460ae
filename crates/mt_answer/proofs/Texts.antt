-- The bytes of a name are a text.
use Rattle.std.proofs.Common.{◌≡◌, ℕ, ◌<◌, ◌≤◌, true, inl, inr, List, take, get_or, subst, arith}
use Rattle.std.specs.List.{prefix_len}
use Rattle.std.specs.Str.{IsUtf8}
use Rattle.std.proofs.lemmas.Bool.{cases_lt}
use Rattle.std.proofs.lemmas.Grind.{common_steps}
use Rattle.std.proofs.lemmas.List.Sums.{prefix_len_passes}
use Rattle.std.proofs.lemmas.Str.{IsUtf8-from_ascii}
use Rattle.mt_text_spec.specs.Words.{is_identifier_byte}

small_byte : (b : ℕ) → is_identifier_byte b ≡ true → b < 128
small_byte b e = grind (arith, common_steps)

at_front : (xs : List ℕ) (n k : ℕ) → k < n → get_or (take n xs) k 0 ≡ get_or xs k 0
at_front xs n k h = grind (arith, common_steps)

past : (xs : List ℕ) (n k : ℕ) → n ≤ k → get_or (take n xs) k 0 ≡ 0
past xs n k h = grind (arith, common_steps)

small_front : (bytes : List ℕ) (n k : ℕ) → n ≡ prefix_len is_identifier_byte bytes → get_or (take n bytes) k 0 < 128
small_front bytes n k e = elim (cases_lt k n) [
  | inl low ↦ let small : get_or bytes k 0 < 128 = small_byte (get_or bytes k 0) (prefix_len_passes is_identifier_byte bytes k 0 (subst (λ (m : ℕ). k < m) e low)) in rw (at_front bytes n k low) small
  | inr high ↦ rw (past bytes n k high) (omega arith)
]

-- the bytes in front that may stand in an identifier
pub front_is_text : (bytes : List ℕ) (n : ℕ) → n ≡ prefix_len is_identifier_byte bytes → IsUtf8 (take n bytes)
front_is_text bytes n e = IsUtf8-from_ascii (take n bytes) (λ k. small_front bytes n k e)
