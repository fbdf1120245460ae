-- Parts of UTF-8 beside an ASCII byte are UTF-8, and a text may be cut there.
use Rattle.std.proofs.Common.{◌≡◌, ℕ, zero, suc, ◌+◌, ◌<◌, ◌≤◌, Bool, true, List, [], ◌∷◌, ◌++◌, length, take, drop, get_or, refl, sym, ◌∙◌, ap, subst, arith, Some}
use Rattle.std.specs.Prelude.{slice_get}
use Rattle.std.specs.Str.{IsUtf8, IsCharBoundary}
use Rattle.std.specs.List.{AllPass, prefix_len}
use Rattle.std.proofs.lemmas.List.Sums.{prefix_len_passes}
use Rattle.std.proofs.lemmas.Grind.{common_steps}
use Rattle.std.proofs.lemmas.Str.{IsUtf8-take, IsUtf8-drop, IsCharBoundary-before_ascii, IsCharBoundary-after_ascii, IsCharBoundary-start}
use Rattle.mt_text_spec.specs.Words.{is_identifier_byte}
use Rattle.mt_file_spec.specs.Tags.{is_space, is_quote, is_tag_name_byte}
use Rattle.mt_vertical.proofs.Steps.{all_tail, all_head}

at_seam : (xs ys : List ℕ) (b : ℕ) → get_or (xs ++ b ∷ ys) (length xs) 0 ≡ b
at_seam xs ys b = grind (arith, common_steps)

in_seam : (xs ys : List ℕ) (b : ℕ) → length xs < length (xs ++ b ∷ ys)
in_seam xs ys b = grind (arith, common_steps)

take_seam : (xs ys : List ℕ) (b : ℕ) → take (length xs) (xs ++ b ∷ ys) ≡ xs
take_seam xs ys b = grind (arith, common_steps)

drop_seam : (xs ys : List ℕ) (b : ℕ) → drop (length xs + 1) (xs ++ b ∷ ys) ≡ ys
drop_seam [] ys b = refl
drop_seam (x ∷ xs) ys b =
    let more : length (x ∷ xs) + 1 ≡ suc (length xs + 1) = omega arith in
    ap (λ n. drop n (x ∷ (xs ++ b ∷ ys))) more ∙ drop_seam xs ys b

small_at : (xs ys : List ℕ) (b : ℕ) → b < 128 → get_or (xs ++ b ∷ ys) (length xs) 0 < 128
small_at xs ys b l = rw (at_seam xs ys b) l

pub utf8_before : (xs ys : List ℕ) (b : ℕ) → b < 128 → IsUtf8 (xs ++ b ∷ ys) → IsUtf8 xs
utf8_before xs ys b l u =
    subst IsUtf8 (take_seam xs ys b) (IsUtf8-take (xs ++ b ∷ ys) (length xs) u (IsCharBoundary-before_ascii (xs ++ b ∷ ys) (length xs) (in_seam xs ys b) (small_at xs ys b l)))

pub utf8_behind : (xs ys : List ℕ) (b : ℕ) → b < 128 → IsUtf8 (xs ++ b ∷ ys) → IsUtf8 ys
utf8_behind xs ys b l u =
    subst IsUtf8 (drop_seam xs ys b) (IsUtf8-drop (xs ++ b ∷ ys) (length xs + 1) u (IsCharBoundary-after_ascii (xs ++ b ∷ ys) (length xs) u (in_seam xs ys b) (small_at xs ys b l)))

pub quote_small : (b : ℕ) → is_quote b ≡ true → b < 128
quote_small b e = grind (arith, common_steps)

-- ## Names

pub name_small : (b : ℕ) → is_tag_name_byte b ≡ true → b < 128
name_small b e = grind (arith, common_steps)

-- ## Where a text may be cut

cut_last : (p : ℕ → Bool) (bytes : List ℕ) (n k : ℕ) → ((b : ℕ) → p b ≡ true → b < 128) → IsUtf8 bytes → n ≡ prefix_len p bytes → n ≡ k + 1 → n ≤ length bytes → IsCharBoundary bytes n
cut_last p bytes n k small u e m l =
    let low : k < prefix_len p bytes = omega (arith, e, m) in
    let ascii : get_or bytes k 0 < 128 = small (get_or bytes k 0) (prefix_len_passes p bytes k 0 low) in
    subst (λ i. IsCharBoundary bytes i) (sym m) (IsCharBoundary-after_ascii bytes k u (omega (arith, m, l)) ascii)

cut_cases : (p : ℕ → Bool) (bytes : List ℕ) (n : ℕ) → ((b : ℕ) → p b ≡ true → b < 128) → IsUtf8 bytes → n ≡ prefix_len p bytes → n ≤ length bytes → IsCharBoundary bytes n
cut_cases p bytes zero small u e l = IsCharBoundary-start bytes u
cut_cases p bytes (suc k) small u e l = cut_last p bytes (suc k) k small u e (omega arith) l

-- behind the ASCII bytes in front
pub cut_behind : (p : ℕ → Bool) (bytes seen : List ℕ) (n : ℕ) → ((b : ℕ) → p b ≡ true → b < 128) → IsUtf8 bytes → seen ≡ bytes → n ≡ prefix_len p seen → n ≤ length seen → IsCharBoundary bytes n
cut_behind p bytes seen n small u s e l = cut_cases p bytes n small u (e ∙ ap (prefix_len p) s) (omega (arith, l, ap length s))

-- before an ASCII byte, and behind it
at_byte : (bytes seen : List ℕ) (n b : ℕ) → seen ≡ bytes → get_or seen n 0 ≡ b → b < 128 → get_or bytes n 0 < 128
at_byte bytes seen n b s e small = omega (arith, ap (λ xs. get_or xs n 0) s, e)

pub cut_before_byte : (bytes seen : List ℕ) (n b : ℕ) → seen ≡ bytes → n < length seen → get_or seen n 0 ≡ b → b < 128 → IsCharBoundary bytes n
cut_before_byte bytes seen n b s l e small = IsCharBoundary-before_ascii bytes n (omega (arith, l, ap length s)) (at_byte bytes seen n b s e small)

pub cut_behind_byte : (bytes seen : List ℕ) (n b : ℕ) → IsUtf8 bytes → seen ≡ bytes → n < length seen → get_or seen n 0 ≡ b → b < 128 → IsCharBoundary bytes (n + 1)
cut_behind_byte bytes seen n b u s l e small = IsCharBoundary-after_ascii bytes n u (omega (arith, l, ap length s)) (at_byte bytes seen n b s e small)

-- behind the first byte
pub cut_first : (bytes seen : List ℕ) (b : ℕ) → IsUtf8 bytes → seen ≡ bytes → Some b ≡ slice_get seen 0 → b < 128 → IsCharBoundary bytes 1
cut_first bytes [] b u s e small = cc
cut_first bytes (x ∷ xs) b u s e small = cut_behind_byte bytes (x ∷ xs) 0 x u s (omega arith) refl (let same : b ≡ x = cc in omega (arith, same))

pub space_small : (b : ℕ) → is_space b ≡ true → b < 128
space_small b e = grind (arith, common_steps)

pub identifier_small : (b : ℕ) → is_identifier_byte b ≡ true → b < 128
identifier_small b e = grind (arith, common_steps)

-- what stands behind ASCII bytes
pub behind_name : (name rest : List ℕ) → AllPass is_tag_name_byte name → IsUtf8 (name ++ rest) → IsUtf8 rest
behind_name [] rest all u = u
behind_name (b ∷ name) rest all u =
    let P : ℕ → Type 0 = λ b. is_tag_name_byte b ≡ true in
    behind_name name rest (all_tail P b name all) (utf8_behind [] (name ++ rest) b (name_small b (all_head P b name all)) u)
