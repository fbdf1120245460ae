-- The bytes in front that pass a test, and what stands behind them.
use Rattle.std.proofs.Common.{◌≡◌, ℕ, ◌+◌, Bool, true, false, ◌==◌, List, length, take, drop, get_or, refl, sym, ◌∙◌, ap, ap₂, arith, nat_lt, None, Some}
use Rattle.std.specs.List.{prefix_len}
use Rattle.std.proofs.lemmas.Bool.{false_from_ne_true}
use Rattle.std.proofs.lemmas.List.Folds.{length-prefix_len}
use Rattle.std.proofs.lemmas.List.Sums.{prefix_len_is}
use Rattle.memchr.specs.Find.{Nowhere, NoneBefore, Passes, is_byte}
use Rattle.mt_file_spec.specs.Tags.{differs}
use Rattle.mt_vertical.specs.TagReading.{past, quote_at}

-- the count of those that are taken while they pass
pub count_taken : (p : ℕ → Bool) (bytes rest : List ℕ) (n : ℕ) → n ≡ length (take (prefix_len p bytes) bytes) → rest ≡ drop n bytes → rest ≡ past p bytes
count_taken p bytes rest n e r = r ∙ ap (λ k. drop k bytes) (e ∙ length-prefix_len p bytes)

eq_or : (b quote : ℕ) → (b == quote) ≡ false → differs quote b ≡ true
eq_or b quote e = rw e refl

eq_then : (b quote : ℕ) → (b == quote) ≡ true → differs quote b ≡ false
eq_then b quote e = rw e refl

-- the first quote is where memchr finds it
pub first_quote : (quote : ℕ) (bytes : List ℕ) (at : ℕ) → NoneBefore (Passes (is_byte quote) bytes) 0 (length bytes) at → Passes (is_byte quote) bytes at →
    prefix_len (differs quote) bytes ≡ at
first_quote quote bytes at none here = prefix_len_is (differs quote) bytes at 0 (omega (arith, none.high))
    (λ k l. eq_or (get_or bytes k 0) quote (false_from_ne_true (get_or bytes k 0 == quote) (none.before k (omega arith) l)))
    (λ l. eq_then (get_or bytes at 0) quote here)

pub no_quote : (quote : ℕ) (bytes : List ℕ) → Nowhere (Passes (is_byte quote) bytes) 0 (length bytes) → prefix_len (differs quote) bytes ≡ length bytes
no_quote quote bytes none = prefix_len_is (differs quote) bytes (length bytes) 0 (omega arith)
    (λ k l. eq_or (get_or bytes k 0) quote (false_from_ne_true (get_or bytes k 0 == quote) (none k (omega arith) l)))
    (λ l. absurd (omega arith))

some_quote : (quote : ℕ) (bytes : List ℕ) (n : ℕ) → prefix_len (differs quote) bytes ≡ n → nat_lt n (length bytes) ≡ true → quote_at quote bytes ≡ Some (take n bytes, drop (n + 1) bytes)
unfolding quote_at
some_quote quote bytes n e l = rw (e, l) refl

none_quote : (quote : ℕ) (bytes : List ℕ) (n : ℕ) → prefix_len (differs quote) bytes ≡ n → nat_lt n (length bytes) ≡ false → quote_at quote bytes ≡ None
unfolding quote_at
none_quote quote bytes n e l = rw (e, l) refl

pub quote_found : (quote : ℕ) (bytes seen front back : List ℕ) (at : ℕ) → seen ≡ bytes → NoneBefore (Passes (is_byte quote) seen) 0 (length seen) at → Passes (is_byte quote) seen at →
    front ≡ take at bytes → back ≡ drop (at + 1) bytes → Some (front, back) ≡ quote_at quote bytes
quote_found quote bytes seen front back at s none here f b =
    ap₂ (λ x y. Some (x, y)) f b ∙ ap (λ xs. Some (take at xs, drop (at + 1) xs)) (sym s)
    ∙ sym (some_quote quote seen at (first_quote quote seen at none here) (grind (arith, none.high))) ∙ ap (quote_at quote) s

pub quote_not_found : (quote : ℕ) (bytes seen : List ℕ) → seen ≡ bytes → Nowhere (Passes (is_byte quote) seen) 0 (length seen) → None ≡ quote_at quote bytes
quote_not_found quote bytes seen s none = sym (none_quote quote seen (length seen) (no_quote quote seen none) (grind arith)) ∙ ap (quote_at quote) s
