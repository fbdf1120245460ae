-- The columns of a line, by where the first tab is.
use Rattle.std.proofs.Common.{◌≡◌, ℕ, ◌+◌, ◌-◌, ◌<◌, false, ◌==◌, List, [], ◌∷◌, ◌++◌, length, take, drop, get_or, refl, sym, ◌∙◌, ap, ap₂, arith}
use Rattle.std.specs.List.{All, slice_range}
use Rattle.std.specs.Str.{IsUtf8, IsCharBoundary}
use Rattle.std.proofs.lemmas.Str.{IsCharBoundary-after_ascii}
use Rattle.std.proofs.Common.{subst}
use Rattle.std.proofs.lemmas.Bool.{false_from_ne_true, eqb-true}
use Rattle.std.proofs.lemmas.Grind.{common_steps}
use Rattle.std.proofs.lemmas.List.{take-append-drop, take_rest}
use Rattle.std.proofs.lemmas.List.Elements.{All-from_get_or}
use Rattle.std.proofs.lemmas.List.Splits.{slice_split_at, slice_split_none}
use Rattle.memchr.specs.Find.{Nowhere, NoneBefore, Passes, is_byte}
use Rattle.mt_file_spec.specs.VerticalLines.{columns}

at_front : (xs : List ℕ) (n k : ℕ) → k < n → get_or (take n xs) k 0 ≡ get_or xs k 0
at_front xs n k h = grind (arith, common_steps)

taken_len : (xs : List ℕ) (n k : ℕ) → k < length (take n xs) → k < n
taken_len xs n k h = grind (arith, common_steps)

no_tab : (xs : List ℕ) (n : ℕ) → Nowhere (Passes (is_byte 9) xs) 0 n → All (λ b. (b == 9) ≡ false) (take n xs)
no_tab xs n none = All-from_get_or (λ b. (b == 9) ≡ false) (take n xs) 0 (λ k l.
    let low : k < n = taken_len xs n k l in
    ap (λ b. b == 9) (at_front xs n k low) ∙ false_from_ne_true (get_or xs k 0 == 9) (none k (omega arith) low))

cut_at : (xs : List ℕ) (n : ℕ) → n < length xs → xs ≡ take n xs ++ get_or xs n 0 ∷ drop (n + 1) xs
cut_at xs n l = grind (arith, common_steps, take-append-drop)

tab_at : (xs : List ℕ) (n : ℕ) → n < length xs → Passes (is_byte 9) xs n → xs ≡ take n xs ++ 9 ∷ drop (n + 1) xs
tab_at xs n l e = cut_at xs n l ∙ ap (λ b. take n xs ++ b ∷ drop (n + 1) xs) (eqb-true (get_or xs n 0) 9 e)

pub first_column : (xs : List ℕ) (n : ℕ) → NoneBefore (Passes (is_byte 9) xs) 0 (length xs) n → Passes (is_byte 9) xs n →
    columns xs ≡ take n xs ∷ columns (take (length xs - (n + 1)) (drop (n + 1) xs))
first_column xs n none at =
    ap columns (tab_at xs n none.high at) ∙ slice_split_at (λ b. b == 9) (take n xs) 9 (drop (n + 1) xs) (no_tab xs n none.before) refl
    ∙ ap (λ r. take n xs ∷ columns r) (sym (take_rest xs (n + 1)))

no_tab_at_all : (xs : List ℕ) → Nowhere (Passes (is_byte 9) xs) 0 (length xs) → All (λ b. (b == 9) ≡ false) xs
no_tab_at_all xs none = All-from_get_or (λ b. (b == 9) ≡ false) xs 0 (λ k l. false_from_ne_true (get_or xs k 0 == 9) (none k (omega arith) l))

pub only_column : (xs : List ℕ) → Nowhere (Passes (is_byte 9) xs) 0 (length xs) → columns xs ≡ xs ∷ []
only_column xs none = slice_split_none (λ b. b == 9) xs (no_tab_at_all xs none)

-- the columns of a text that is cut at its first tab
pub cut_at_tab : (xs seen first rest : List ℕ) (n : ℕ) → seen ≡ xs → NoneBefore (Passes (is_byte 9) seen) 0 (length seen) n → Passes (is_byte 9) seen n →
    first ≡ slice_range xs 0 n → rest ≡ drop (n + 1) xs → columns xs ≡ first ∷ columns rest
cut_at_tab xs seen first rest n s none at f r =
    let whole : columns seen ≡ take n seen ∷ columns (take (length seen - (n + 1)) (drop (n + 1) seen)) = first_column seen n none at in
    let zero_less : n - 0 ≡ n = omega arith in
    let front : first ≡ take n xs = f ∙ ap (λ k. take k xs) zero_less in
    ap columns (sym s) ∙ whole ∙ ap (λ bs. take n bs ∷ columns (take (length bs - (n + 1)) (drop (n + 1) bs))) s
    ∙ ap₂ (λ (a b : List ℕ). a ∷ columns b) (sym front) (take_rest xs (n + 1) ∙ sym r)

-- a text may be cut behind a tab
pub behind_tab : (xs seen : List ℕ) (n : ℕ) → seen ≡ xs → IsUtf8 xs → NoneBefore (Passes (is_byte 9) seen) 0 (length seen) n → Passes (is_byte 9) seen n → IsCharBoundary xs (n + 1)
behind_tab xs seen n s u none at =
    let P : List ℕ → Type 0 = λ bs. Passes (is_byte 9) bs n in
    let byte : get_or xs n 0 ≡ 9 = eqb-true (get_or xs n 0) 9 (subst P s at) in
    IsCharBoundary-after_ascii xs n u (omega (arith, none.high, ap length s)) (omega (arith, byte))
