-- A line is UTF-8 where it is without the blanks at its ends.
use Rattle.std.proofs.Common.{ℕ, ◌≡◌, ◌+◌, ◌-◌, ◌<◌, ◌≤◌, true, List, [], ◌∷◌, ◌++◌, length, take, drop, get_or, reverse, sym, ◌∙◌, ap, subst, arith, append-nil}
use Rattle.std.specs.List.{AllPass, prefix_len, suffix_len}
use Rattle.std.specs.Str.{IsUtf8}
use Rattle.std.proofs.lemmas.Grind.{common_steps}
use Rattle.std.proofs.lemmas.List.{length-take-le, length-drop, length-reverse, get_or-take, get_or-drop, get_or-reverse, take-append-drop}
use Rattle.std.proofs.lemmas.List.Elements.{All-head, All-tail, All-from_get_or}
use Rattle.std.proofs.lemmas.List.Sums.{prefix_len-le-length, prefix_len_passes, suffix_len-le-length}
use Rattle.std.proofs.lemmas.Str.{IsUtf8-nil, IsUtf8-append, IsUtf8-from_ascii, IsUtf8-take, IsUtf8-drop, IsCharBoundary-before_ascii, IsCharBoundary-after_ascii}
use Rattle.mt_file_spec.specs.RegistryFile.{is_blank, trimmed}

-- ## What trimming leaves

record IsTrimmed (line bare : List ℕ) : Type 0 where
  left : List ℕ
  right : List ℕ
  are : line ≡ left ++ (bare ++ right)
  before : AllPass is_blank left
  behind : AllPass is_blank right

blank_end : (rest : List ℕ) (k : ℕ) → k < length rest → length rest - suffix_len is_blank rest ≤ k → is_blank (get_or rest k 0) ≡ true
blank_end rest k l high =
    let s = suffix_len-le-length is_blank rest in
    let r : length (reverse rest) ≡ length rest = length-reverse rest in
    let e : get_or (reverse rest) (length rest - 1 - k) 0 ≡ get_or rest (length rest - 1 - (length rest - 1 - k)) 0 = get_or-reverse rest (length rest - 1 - k) 0 (omega arith) in
    let i : length rest - 1 - (length rest - 1 - k) ≡ k = omega arith in
    ap is_blank (ap (λ j. get_or rest j 0) (sym i) ∙ sym e) ∙ prefix_len_passes is_blank (reverse rest) (length rest - 1 - k) 0 (omega arith)

is_trimmed : (line : List ℕ) → IsTrimmed line (trimmed line)
is_trimmed line =
    let n : ℕ = prefix_len is_blank line in
    let rest : List ℕ = drop n line in
    let m : ℕ = length rest - suffix_len is_blank rest in
    let nl : n ≤ length line = prefix_len-le-length is_blank line in
    let dl : length (drop m rest) ≡ length rest - m = length-drop m rest in
    let tl : length (take n line) ≡ n = length-take-le n line nl in
    record {
      left = take n line;
      right = drop m rest;
      are = sym (take-append-drop n line) ∙ ap (λ (xs : List ℕ). take n line ++ xs) (sym (take-append-drop m rest));
      before = All-from_get_or (λ b. is_blank b ≡ true) (take n line) 0 (λ k l. ap is_blank (get_or-take n line k 0 (omega arith)) ∙ prefix_len_passes is_blank line k 0 (omega arith));
      behind = All-from_get_or (λ b. is_blank b ≡ true) (drop m rest) 0 (λ k l. ap is_blank (get_or-drop m rest k 0) ∙ blank_end rest (m + k) (omega arith) (omega arith));
    }

-- ## Parts beside an ASCII byte

at_seam : (xs ys : List ℕ) (b : ℕ) → get_or (xs ++ b ∷ ys) (length xs) 0 ≡ b
at_seam xs ys b = grind (arith, common_steps)

in_seam : (xs ys : List ℕ) (b : ℕ) → length xs < length (xs ++ b ∷ ys)
in_seam xs ys b = grind (arith, common_steps)

take_seam : (xs ys : List ℕ) (b : ℕ) → take (length xs) (xs ++ b ∷ ys) ≡ xs
take_seam xs ys b = grind (arith, common_steps)

utf8_before : (xs ys : List ℕ) (b : ℕ) → b < 128 → IsUtf8 (xs ++ b ∷ ys) → IsUtf8 xs
utf8_before xs ys b l u =
    let small : get_or (xs ++ b ∷ ys) (length xs) 0 < 128 = rw (at_seam xs ys b) l in
    subst IsUtf8 (take_seam xs ys b) (IsUtf8-take (xs ++ b ∷ ys) (length xs) u (IsCharBoundary-before_ascii (xs ++ b ∷ ys) (length xs) (in_seam xs ys b) small))

utf8_behind : (ys : List ℕ) (b : ℕ) → b < 128 → IsUtf8 (b ∷ ys) → IsUtf8 ys
utf8_behind ys b l u = IsUtf8-drop (b ∷ ys) 1 u (IsCharBoundary-after_ascii (b ∷ ys) 0 u (omega arith) l)

blank_small : (b : ℕ) → is_blank b ≡ true → b < 128
blank_small b e = grind (arith, common_steps)

behind_blanks : (left rest : List ℕ) → AllPass is_blank left → IsUtf8 (left ++ rest) → IsUtf8 rest
behind_blanks [] rest all u = u
behind_blanks (b ∷ left) rest all u =
    let P : ℕ → Type 0 = λ b. is_blank b ≡ true in
    behind_blanks left rest (All-tail P b left all) (utf8_behind (left ++ rest) b (blank_small b (All-head P b left all)) u)

before_blanks : (bare right : List ℕ) → AllPass is_blank right → IsUtf8 (bare ++ right) → IsUtf8 bare
before_blanks bare [] all u = subst IsUtf8 (append-nil bare) u
before_blanks bare (b ∷ right) all u = utf8_before bare right b (blank_small b (All-head (λ b. is_blank b ≡ true) b right all)) u

blanks_utf8 : (blanks : List ℕ) → AllPass is_blank blanks → IsUtf8 blanks
blanks_utf8 [] all = IsUtf8-nil
blanks_utf8 (b ∷ blanks) all =
    let P : ℕ → Type 0 = λ b. is_blank b ≡ true in
    IsUtf8-append (b ∷ []) blanks (one b (blank_small b (All-head P b blanks all))) (blanks_utf8 blanks (All-tail P b blanks all))
  where
    one : (b : ℕ) → b < 128 → IsUtf8 (b ∷ [])
    one b l = IsUtf8-from_ascii (b ∷ []) (λ i. grind (arith, common_steps, l))

pub bare_utf8 : (line : List ℕ) → IsUtf8 line → IsUtf8 (trimmed line)
bare_utf8 line u = let t = is_trimmed line in before_blanks (trimmed line) t.right t.behind (behind_blanks t.left (trimmed line ++ t.right) t.before (subst IsUtf8 t.are u))

pub line_utf8 : (line : List ℕ) → IsUtf8 (trimmed line) → IsUtf8 line
line_utf8 line u = let t = is_trimmed line in
    subst IsUtf8 (sym t.are) (IsUtf8-append t.left (trimmed line ++ t.right) (blanks_utf8 t.left t.before) (IsUtf8-append (trimmed line) t.right u (blanks_utf8 t.right t.behind)))
