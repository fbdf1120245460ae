-- Lines without the blanks at their ends.
use Rattle.std.proofs.Common.{ℕ, ◌≡◌, ◌+◌, ◌-◌, ◌<◌, ◌≤◌, Bool, true, false, cond, List, [], ◌∷◌, ◌++◌, length, take, drop, get_or, reverse, refl, sym, ◌∙◌, ap, arith}
use Rattle.std.specs.List.{AllPass, prefix_len, suffix_len}
use Rattle.std.proofs.lemmas.Grind.{common_steps}
use Rattle.std.proofs.lemmas.List.{length-append, length-take-le, length-drop, length-reverse, get_or-append_right, get_or-take, get_or-drop, get_or-reverse, take_all, take-append-le, take-append-drop, drop_all}
use Rattle.std.proofs.lemmas.List.Elements.{All-head, All-tail, All-from_get_or}
use Rattle.std.proofs.lemmas.List.Prefix.{front_rest}
use Rattle.std.proofs.lemmas.List.Sums.{prefix_len-le-length, prefix_len_passes, prefix_len_stops, suffix_len-le-length, suffix_len_is}
use Rattle.mt_file_spec.specs.RegistryFile.{is_blank, trimmed, trimmed_end}
use Rattle.mt_registry.specs.RegistryForms.{IsTight}

pub get_left : (xs ys : List ℕ) (k : ℕ) → k < length xs → get_or (xs ++ ys) k 0 ≡ get_or xs k 0
get_left [] ys k l = absurd (omega arith)
get_left (x ∷ xs) ys k l = grind (arith, common_steps, get_left xs ys (k - 1))

pub get_right : (xs ys : List ℕ) (k : ℕ) → length xs ≤ k → get_or (xs ++ ys) k 0 ≡ get_or ys (k - length xs) 0
get_right xs ys k l = get_or-append_right xs ys (length xs) k 0 refl l

pub take_left : (xs ys : List ℕ) → take (length xs) (xs ++ ys) ≡ xs
take_left xs ys = take-append-le (length xs) xs ys (omega arith) ∙ take_all (length xs) xs (omega arith)

pub drop_left : (xs ys : List ℕ) → drop (length xs) (xs ++ ys) ≡ ys
drop_left xs ys = front_rest (xs ++ ys) xs ys refl

-- ## What passes at an end

none_pass : (p : ℕ → Bool) (v : List ℕ) → p (get_or v 0 0) ≡ false → prefix_len p v ≡ 0
none_pass p [] e = refl
none_pass p (x ∷ v) e = ap (λ b. cond b (1 + prefix_len p v) 0) e

pub prefix_all : (p : ℕ → Bool) (u v : List ℕ) → AllPass p u → p (get_or v 0 0) ≡ false → prefix_len p (u ++ v) ≡ length u
prefix_all p [] v all e = none_pass p v e
prefix_all p (x ∷ u) v all e =
    let ih : prefix_len p (u ++ v) ≡ length u = prefix_all p u v (All-tail (λ y. p y ≡ true) x u all) e in
    ap (λ b. cond b (1 + prefix_len p (u ++ v)) 0) (All-head (λ y. p y ≡ true) x u all) ∙ omega arith

suffix_all : (p : ℕ → Bool) (v u : List ℕ) → AllPass p u → (0 < length v → p (get_or v (length v - 1) 0) ≡ false) → suffix_len p (v ++ u) ≡ length u
suffix_all p v u all e =
    let l : length (v ++ u) ≡ length v + length u = length-append v u in
    suffix_len_is p (v ++ u) (length v) 0 (omega arith)
    (λ k low high. ap p (get_right v u k low) ∙ all (k - length v) 0 (omega arith))
    (λ some. ap p (get_left v u (length v - 1) (omega arith)) ∙ e some)
    ∙ omega arith

-- ## Trimming

pub trimmed_is : (left text right : List ℕ) → AllPass is_blank left → AllPass is_blank right → IsTight text → trimmed (left ++ (text ++ right)) ≡ text
trimmed_is left text right before behind tight =
    let n : prefix_len is_blank (left ++ (text ++ right)) ≡ length left = prefix_all is_blank left (text ++ right) before (ap is_blank (get_left text right 0 tight.some) ∙ tight.first) in
    let m : suffix_len is_blank (text ++ right) ≡ length right = suffix_all is_blank text right behind (λ _. tight.last) in
    let l : length (text ++ right) ≡ length text + length right = length-append text right in
    let k : length (text ++ right) - suffix_len is_blank (text ++ right) ≡ length text = omega arith in
    ap (λ i. trimmed_end (drop i (left ++ (text ++ right)))) n ∙ ap trimmed_end (drop_left left (text ++ right)) ∙ ap (λ i. take i (text ++ right)) k ∙ take_left text right

nothing : (xs : List ℕ) → xs ++ [] ≡ xs
nothing [] = refl
nothing (x ∷ xs) = ap (λ ys. x ∷ ys) (nothing xs)

pub trimmed_none : (line : List ℕ) → AllPass is_blank line → trimmed line ≡ []
trimmed_none line all =
    let n : prefix_len is_blank line ≡ length line = ap (λ (xs : List ℕ). prefix_len is_blank xs) (sym (nothing line)) ∙ prefix_all is_blank line [] all refl in
    ap (λ i. trimmed_end (drop i line)) n ∙ ap trimmed_end (drop_all (length line) line (omega arith))

-- what a line is without the blanks at its ends
pub record IsTrimmed (line bare : List ℕ) : Type 0 where
  pub left : List ℕ
  pub right : List ℕ
  pub are : line ≡ left ++ (bare ++ right)
  pub before : AllPass is_blank left
  pub behind : AllPass is_blank right
  pub tight : 0 < length bare → IsTight bare

pub is_trimmed_end : (rest : List ℕ) (k : ℕ) → k < length rest → length rest - suffix_len is_blank rest ≤ k → is_blank (get_or rest k 0) ≡ true
is_trimmed_end rest k l high =
    let s = suffix_len-le-length is_blank rest in
    let r : length (reverse rest) ≡ length rest = length-reverse rest in
    let e : get_or (reverse rest) (length rest - 1 - k) 0 ≡ get_or rest (length rest - 1 - (length rest - 1 - k)) 0 = get_or-reverse rest (length rest - 1 - k) 0 (omega arith) in
    let i : length rest - 1 - (length rest - 1 - k) ≡ k = omega arith in
    ap is_blank (ap (λ j. get_or rest j 0) (sym i) ∙ sym e) ∙ prefix_len_passes is_blank (reverse rest) (length rest - 1 - k) 0 (omega arith)

last_stops : (rest : List ℕ) (m : ℕ) → m ≡ length rest - suffix_len is_blank rest → 0 < m → is_blank (get_or rest (m - 1) 0) ≡ false
last_stops rest m is some =
    let s = suffix_len-le-length is_blank rest in
    let r : length (reverse rest) ≡ length rest = length-reverse rest in
    let e : get_or (reverse rest) (suffix_len is_blank rest) 0 ≡ get_or rest (length rest - 1 - suffix_len is_blank rest) 0 = get_or-reverse rest (suffix_len is_blank rest) 0 (omega arith) in
    let i : length rest - 1 - suffix_len is_blank rest ≡ m - 1 = omega arith in
    ap is_blank (ap (λ j. get_or rest j 0) (sym i) ∙ sym e) ∙ prefix_len_stops is_blank (reverse rest) 0 (omega arith)

pub is_trimmed : (line : List ℕ) → IsTrimmed line (trimmed line)
is_trimmed line =
    let n : ℕ = prefix_len is_blank line in
    let rest : List ℕ = drop n line in
    let m : ℕ = length rest - suffix_len is_blank rest in
    let nl : n ≤ length line = prefix_len-le-length is_blank line in
    let rl : length rest ≡ length line - n = length-drop n line in
    let sl : suffix_len is_blank rest ≤ length rest = suffix_len-le-length is_blank rest in
    let bl : length (take m rest) ≡ m = length-take-le m rest (omega arith) in
    let dl : length (drop m rest) ≡ length rest - m = length-drop m rest in
    let tl : length (take n line) ≡ n = length-take-le n line nl in
    record {
      left = take n line;
      right = drop m rest;
      are = sym (take-append-drop n line) ∙ ap (λ (xs : List ℕ). take n line ++ xs) (sym (take-append-drop m rest));
      before = All-from_get_or (λ b. is_blank b ≡ true) (take n line) 0 (λ k l. ap is_blank (get_or-take n line k 0 (omega arith)) ∙ prefix_len_passes is_blank line k 0 (omega arith));
      behind = All-from_get_or (λ b. is_blank b ≡ true) (drop m rest) 0 (λ k l. ap is_blank (get_or-drop m rest k 0) ∙ is_trimmed_end rest (m + k) (omega arith) (omega arith));
      tight = λ some. record {
        some = some;
        first = ap is_blank (get_or-take m rest 0 0 (omega arith) ∙ get_or-drop n line 0 0 ∙ ap (λ j. get_or line j 0) (let z : n + 0 ≡ n = omega arith in z)) ∙ prefix_len_stops is_blank line 0 (omega arith);
        last = ap (λ j. is_blank (get_or (take m rest) (j - 1) 0)) bl ∙ ap is_blank (get_or-take m rest (m - 1) 0 (omega arith)) ∙ last_stops rest m refl (omega arith);
      };
    }
