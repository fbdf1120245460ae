-- The distances of a window, without 0.
use Rattle.std.proofs.Common.{◌≡◌, ℕ, zero, suc, ◌+◌, ◌-◌, ◌≤◌, max, ℤ, pos, negsuc, ◌+ℤ◌, ◌≤ℤ◌, List, [], ◌∷◌, ◌++◌, append-nil, refl, sym, ◌∙◌, ap, ap₂, arith}
use Rattle.std.specs.List.{filter}
use Rattle.std.proofs.lemmas.Int.{ints}
use Rattle.mt_report_spec.specs.Near.{is_outside, numbers_from, window}
use Rattle.mt_frequencies.specs.Distances.{distances_before, distances_behind, left_size, right_size}

one_on : (n : ℕ) → pos n +ℤ pos 1 ≡ pos (suc n)
one_on n = omega (arith, ints)

one_up : (n : ℕ) → negsuc (suc n) +ℤ pos 1 ≡ negsuc n
one_up n = omega (arith, ints)

-- all to the right are kept
kept_right : (n count : ℕ) → filter is_outside (numbers_from (pos (suc n)) count) ≡ numbers_from (pos (suc n)) count
kept_right n zero = refl
kept_right n (suc count) =
    ap (λ (d : ℤ). pos (suc n) ∷ filter is_outside (numbers_from d count)) (one_on (suc n)) ∙ ap (λ (ds : List ℤ). pos (suc n) ∷ ds) (kept_right (suc n) count)
    ∙ ap (λ (d : ℤ). pos (suc n) ∷ numbers_from d count) (sym (one_on (suc n)))

-- and all to the left
kept_left : (n count : ℕ) → count ≤ n + 1 → filter is_outside (numbers_from (negsuc n) count) ≡ numbers_from (negsuc n) count
kept_left n zero l = refl
kept_left zero (suc count) l =
    let none : count ≡ 0 = omega arith in
    ap (λ (k : ℕ). negsuc 0 ∷ filter is_outside (numbers_from (negsuc 0 +ℤ pos 1) k)) none ∙ sym (ap (λ (k : ℕ). negsuc 0 ∷ numbers_from (negsuc 0 +ℤ pos 1) k) none)
kept_left (suc n) (suc count) l =
    ap (λ (d : ℤ). negsuc (suc n) ∷ filter is_outside (numbers_from d count)) (one_up n) ∙ ap (λ (ds : List ℤ). negsuc (suc n) ∷ ds) (kept_left n count (omega arith))
    ∙ ap (λ (d : ℤ). negsuc (suc n) ∷ numbers_from d count) (sym (one_up n))

-- over 0: all to the left, and those to the right
kept_both : (n count : ℕ) → filter is_outside (numbers_from (negsuc n) (n + 1 + (count + 1))) ≡ numbers_from (negsuc n) (n + 1) ++ numbers_from (pos 1) count
kept_both zero zero = refl
kept_both zero (suc count) =
    let size : 0 + 1 + (suc count + 1) ≡ suc (suc (suc count)) = omega arith in
    ap (λ (k : ℕ). filter is_outside (numbers_from (negsuc 0) k)) size ∙ ap (λ (ds : List ℤ). negsuc 0 ∷ ds) (kept_right 0 (suc count))
kept_both (suc n) count =
    let size : suc n + 1 + (count + 1) ≡ suc (n + 1 + (count + 1)) = omega arith in
    let front : suc n + 1 ≡ suc (n + 1) = omega arith in
    ap (λ (k : ℕ). filter is_outside (numbers_from (negsuc (suc n)) k)) size
    ∙ ap (λ (d : ℤ). negsuc (suc n) ∷ filter is_outside (numbers_from d (n + 1 + (count + 1)))) (one_up n)
    ∙ ap (λ (ds : List ℤ). negsuc (suc n) ∷ ds) (kept_both n count)
    ∙ ap (λ (d : ℤ). negsuc (suc n) ∷ (numbers_from d (n + 1) ++ numbers_from (pos 1) count)) (sym (one_up n))
    ∙ ap (λ (k : ℕ). numbers_from (negsuc (suc n)) k ++ numbers_from (pos 1) count) (sym front)

same_before : (a b c d : ℕ) → a ≡ c → b ≡ d → distances_before a b ≡ distances_before c d
same_before a b c d e f = ap₂ distances_before e f

same_behind : (a b c d : ℕ) → a ≡ c → b ≡ d → distances_behind a b ≡ distances_behind c d
same_behind a b c d e f = ap₂ distances_behind e f

of_window : (first last : ℤ) → first ≤ℤ last → distances_before (max (left_size last) 1) (left_size first + 1) ++ distances_behind (max (right_size first) 1) (right_size last + 1) ≡ window first last
of_window (pos zero) (pos n) l = ap (numbers_from (pos 1)) (let size : n + 1 - 1 ≡ n = omega arith in size) ∙ sym (by n)
  where
    by : (n : ℕ) → window (pos 0) (pos n) ≡ numbers_from (pos 1) n
    by zero = refl
    by (suc n) = let size : suc n - 0 + 1 ≡ suc (suc n) = omega arith in ap (λ (k : ℕ). filter is_outside (numbers_from (pos 0) k)) size ∙ kept_right 0 (suc n)
of_window (pos (suc m)) (pos n) l =
    let from : max (suc m) 1 ≡ suc m = omega arith in
    let size : n + 1 - suc m ≡ n - suc m + 1 = omega (arith, ints, l) in
    ap (λ (k : ℕ). numbers_from (pos k) (n + 1 - k)) from ∙ ap (numbers_from (pos (suc m))) size ∙ sym (kept_right m (n - suc m + 1))
of_window (pos m) (negsuc n) l = absurd (omega (arith, ints, l))
of_window (negsuc m) (negsuc n) l =
    let to : m + 1 + 1 - 2 ≡ m = omega arith in
    let size : m + 1 + 1 - max (n + 1) 1 ≡ m - n + 1 = omega (arith, ints, l) in
    ap₂ (λ (k j : ℕ). numbers_from (negsuc k) j ++ []) to size ∙ append-nil (numbers_from (negsuc m) (m - n + 1)) ∙ sym (kept_left m (m - n + 1) (omega (arith, ints, l)))
of_window (negsuc m) (pos n) l =
    let to : m + 1 + 1 - 2 ≡ m = omega arith in
    let size : m + 1 + 1 - 1 ≡ m + 1 = omega arith in
    let right : n + 1 - 1 ≡ n = omega arith in
    let all : m + 1 + n + 1 ≡ m + 1 + (n + 1) = omega arith in
    ap₂ (λ (k j : ℕ). numbers_from (negsuc k) j ++ numbers_from (pos 1) (n + 1 - 1)) to size ∙ ap (λ (k : ℕ). numbers_from (negsuc m) (m + 1) ++ numbers_from (pos 1) k) right
    ∙ sym (ap (λ (k : ℕ). filter is_outside (numbers_from (negsuc m) k)) all ∙ kept_both m n)

-- the same by the ends of the distances
pub windows : (first last : ℤ) (a b c d : ℕ) → first ≤ℤ last → a ≡ max (left_size last) 1 → b ≡ left_size first + 1 → c ≡ max (right_size first) 1 → d ≡ right_size last + 1 → distances_before a b ++ distances_behind c d ≡ window first last
windows first last a b c d l is_a is_b is_c is_d =
    ap₂ ◌++◌ (same_before a b (max (left_size last) 1) (left_size first + 1) is_a is_b) (same_behind c d (max (right_size first) 1) (right_size last + 1) is_c is_d) ∙ of_window first last l

-- nothing is farther to the left than the first, nor to the right than the last
pub are_distances : (first last : ℤ) → first ≤ℤ last → (left_size last ≤ left_size first) × (right_size first ≤ right_size last)
are_distances (pos m) (pos n) l = (omega arith, omega (arith, ints, l))
are_distances (pos m) (negsuc n) l = absurd (omega (arith, ints, l))
are_distances (negsuc m) (pos n) l = (omega arith, omega arith)
are_distances (negsuc m) (negsuc n) l = (omega (arith, ints, l), omega arith)
