-- The first of the lines, by where the first line feed is.
use Rattle.std.proofs.Common.{◌≡◌, ℕ, ◌+◌, ◌-◌, ◌<◌, ◌≤◌, Bool, true, false, ◌==◌, List, [], ◌∷◌, ◌++◌, length, take, drop, get_or, refl, sym, ◌∙◌, ap, arith, length-take, eqb-true, if◌then◌else◌}
use Rattle.std.specs.List.{All, slice_split, onto_first}
use Rattle.std.specs.Str.Lines.{lines, lines_of_parts, strip_carriage_return}
use Rattle.std.proofs.lemmas.Bool.{false_from_ne_true}
use Rattle.std.proofs.lemmas.Grind.{common_steps}
use Rattle.std.proofs.lemmas.List.{take-append-drop, take_rest}
use Rattle.std.proofs.lemmas.List.Elements.{All-from_get_or}
use Rattle.std.proofs.lemmas.List.Splits.{slice_split_at, slice_split_none, length-slice_split}
use Rattle.memchr.specs.Find.{Nowhere, NoneBefore, Passes, is_byte}

two_parts : (x : List ℕ) (parts : List (List ℕ)) → 0 < length parts → lines_of_parts (x ∷ parts) ≡ strip_carriage_return x ∷ lines_of_parts parts
two_parts x [] h = absurd (omega arith)
two_parts x (y ∷ more) h = refl

line_then : (xs ys : List ℕ) → All (λ b. (b == 10) ≡ false) xs → lines (xs ++ 10 ∷ ys) ≡ strip_carriage_return xs ∷ lines ys
line_then xs ys none = ap lines_of_parts (slice_split_at (λ b. b == 10) xs 10 ys none refl)
    ∙ two_parts xs (slice_split (λ b. b == 10) ys) (let e = length-slice_split (λ b. b == 10) ys in omega arith)

at_front : (xs : List ℕ) (n k : ℕ) → k < n → get_or (take n xs) k 0 ≡ get_or xs k 0
at_front xs n k h = grind (arith, common_steps)

no_feed : (xs : List ℕ) (n : ℕ) → Nowhere (Passes (is_byte 10) xs) 0 n → All (λ b. (b == 10) ≡ false) (take n xs)
no_feed xs n none = All-from_get_or (λ b. (b == 10) ≡ false) (take n xs) 0 (λ k l.
    let low : k < n = omega (arith, l, length-take {A = ℕ}) in
    ap (λ b. b == 10) (at_front xs n k low) ∙ false_from_ne_true (get_or xs k 0 == 10) (none k (omega arith) low))

no_feed_at_all : (xs : List ℕ) → Nowhere (Passes (is_byte 10) xs) 0 (length xs) → All (λ b. (b == 10) ≡ false) xs
no_feed_at_all xs none = All-from_get_or (λ b. (b == 10) ≡ false) xs 0 (λ k l. false_from_ne_true (get_or xs k 0 == 10) (none k (omega arith) l))

cut_at : (xs : List ℕ) (n : ℕ) → n < length xs → get_or xs n 0 ≡ 10 → xs ≡ take n xs ++ 10 ∷ drop (n + 1) xs
cut_at xs n l e = grind (arith, common_steps, take-append-drop)

-- a line feed at n ends the first line
pub first_to : (xs line : List ℕ) (n : ℕ) → NoneBefore (Passes (is_byte 10) xs) 0 (length xs) n → get_or xs n 0 ≡ 10 → line ≡ strip_carriage_return (take n xs) →
    lines xs ≡ line ∷ lines (take (length xs - (n + 1)) (drop (n + 1) xs))
first_to xs line n none at e =
    ap lines (cut_at xs n none.high at) ∙ line_then (take n xs) (drop (n + 1) xs) (no_feed xs n none.before)
    ∙ ap (λ l. l ∷ lines (drop (n + 1) xs)) (sym e) ∙ ap (λ r. line ∷ lines r) (sym (take_rest xs (n + 1)))

nothing_left : (xs : List ℕ) → take (length xs - length xs) (drop (length xs) xs) ≡ []
nothing_left xs = grind (arith, common_steps)

one_part : (xs : List ℕ) → 0 < length xs → lines_of_parts (xs ∷ []) ≡ xs ∷ []
one_part xs some = ap (λ b. if b then [] else xs ∷ []) (false_from_ne_true (length xs == 0) (λ e. let none : length xs ≡ 0 = eqb-true _ _ e in omega arith))

-- with no line feed there is one line
pub only : (xs : List ℕ) → 0 < length xs → Nowhere (Passes (is_byte 10) xs) 0 (length xs) → lines xs ≡ xs ∷ lines (take (length xs - length xs) (drop (length xs) xs))
only xs some none = ap lines_of_parts (slice_split_none (λ b. b == 10) xs (no_feed_at_all xs none))
    ∙ one_part xs some ∙ ap (λ (r : List ℕ). xs ∷ lines r) (sym (nothing_left xs))

-- a byte more in the first part is at most a line more
one_more : (x : ℕ) (parts : List (List ℕ)) → length (lines_of_parts (onto_first x parts)) ≤ length (lines_of_parts parts) + 1
one_more x [] = omega arith
one_more x (part ∷ []) = omega (arith, ap length (one_part (x ∷ part) (omega arith)))
one_more x (part ∷ next ∷ more) = omega arith

one_byte_more : (ends : Bool) (b : ℕ) (parts : List (List ℕ)) → 0 < length parts →
    length (lines_of_parts (if ends then [] ∷ parts else onto_first b parts)) ≤ length (lines_of_parts parts) + 1
one_byte_more true b parts some = rw (two_parts [] parts some) (omega arith)
one_byte_more false b parts some = one_more b parts

-- there are no more lines than bytes
pub length-lines : (bs : List ℕ) → length (lines bs) ≤ length bs
length-lines [] = omega arith
length-lines (b ∷ bs) =
    let parts : List (List ℕ) = slice_split (λ b. b == 10) bs in
    let some : 0 < length parts = omega (arith, length-slice_split (λ b. b == 10) bs) in
    omega (arith, one_byte_more (b == 10) b parts some, length-lines bs)
