-- Whether a line has columns that are too long.
use Rattle.std.proofs.Common.{◌≡◌, ℕ, zero, suc, ◌+◌, ◌-◌, ◌<◌, ◌≤◌, Bool, true, false, cond, ◌==◌, List, [], ◌∷◌, ◌++◌, length, refl, sym, ◌∙◌, ap, subst, arith, append-nil}
use Rattle.std.specs.List.{All, slice_split, onto_first}
use Rattle.std.proofs.lemmas.List.Elements.{All-nil, All-cons, All-head, All-tail, All-weaker}
use Rattle.mt_text_spec.specs.Texts.{value_bytes_limit}
use Rattle.mt_file_spec.specs.Tags.{missing}
use Rattle.mt_file_spec.specs.VerticalLines.{columns, first_columns}
use Rattle.mt_vertical.specs.Readers.{AreShort}
use Rattle.mt_vertical.proofs.Filled.{column_kept, short_push}

-- ## No column is longer than its line

abbrev Within : ℕ → List ℕ → Type 0
Within n part = length part ≤ n

onto_within : (n x : ℕ) (parts : List (List ℕ)) → All (Within n) parts → All (Within (suc n)) (onto_first x parts)
onto_within n x [] all = All-cons (Within (suc n)) (x ∷ []) [] (omega arith) (All-nil (Within (suc n)))
onto_within n x (part ∷ parts) all =
    let here : length part ≤ n = All-head (Within n) part parts all in
    All-cons (Within (suc n)) (x ∷ part) parts (omega (arith, here)) (All-weaker (Within n) (Within (suc n)) (λ p l. omega (arith, l)) parts (All-tail (Within n) part parts all))

step_within : (n : ℕ) (t : Bool) (x : ℕ) (parts : List (List ℕ)) → All (Within n) parts → All (Within (suc n)) (cond t ([] ∷ parts) (onto_first x parts))
step_within n true x parts all = All-cons (Within (suc n)) [] parts (omega arith) (All-weaker (Within n) (Within (suc n)) (λ p l. omega (arith, l)) parts all)
step_within n false x parts all = onto_within n x parts all

split_within : (q : ℕ → Bool) (xs : List ℕ) → All (Within (length xs)) (slice_split q xs)
split_within q [] = All-cons (Within 0) [] [] (omega arith) (All-nil (Within 0))
split_within q (x ∷ xs) = step_within (length xs) (q x) x (slice_split q xs) (split_within q xs)

first_short : (n : ℕ) (cs : List (List ℕ)) → AreShort cs → AreShort (first_columns n cs)
first_short zero cs all = All-nil (Within value_bytes_limit)
first_short (suc n) [] all = All-cons (Within value_bytes_limit) missing (first_columns n []) (omega arith) (first_short n [] all)
first_short (suc n) (c ∷ cs) all =
    All-cons (Within value_bytes_limit) c (first_columns n cs) (All-head (Within value_bytes_limit) c cs all) (first_short n cs (All-tail (Within value_bytes_limit) c cs all))

-- a short line has short columns alone
pub short_line : (count : ℕ) (line : List ℕ) → length line ≤ value_bytes_limit → AreShort (first_columns count (columns line))
short_line count line l =
    first_short count (columns line)
    (All-weaker (Within (length line)) (Within value_bytes_limit) (λ p k. omega (arith, k, l)) (columns line) (split_within (λ b. b == 9) line))

-- ## One column after another

-- the columns before those that are left are short
pub record Passed (count left : ℕ) (line : List ℕ) (others : List (List ℕ)) : Type 0 where
  pub seen : List (List ℕ)
  pub so_far : seen ++ first_columns left others ≡ first_columns count (columns line)
  pub short : AreShort seen

pub none_passed : (count left : ℕ) (line : List ℕ) → left ≡ count → Passed count left line (columns line)
none_passed count left line e = record { seen = []; so_far = ap (λ n. first_columns n (columns line)) e; short = All-nil (Within value_bytes_limit) }

pub one_passed : (count i : ℕ) (line : List ℕ) (others rest : List (List ℕ)) (column : List ℕ) → Passed count (count - i) line others → i < count →
    ((n : ℕ) → first_columns (n + 1) others ≡ column ∷ first_columns n rest) → length column ≤ value_bytes_limit → Passed count (count - (i + 1)) line rest
one_passed count i line others rest column p l step short = record {
  seen = p.seen ++ column ∷ [];
  so_far = column_kept count i p.seen column others rest (first_columns count (columns line)) l p.so_far step;
  short = short_push p.seen (p.seen ++ column ∷ []) column column refl refl p.short short;
}

pub all_passed : (count i : ℕ) (line : List ℕ) (others : List (List ℕ)) → count ≤ i → Passed count (count - i) line others → AreShort (first_columns count (columns line))
all_passed count i line others l p =
    let none : count - i ≡ 0 = omega arith in
    subst AreShort (sym (append-nil p.seen) ∙ ap (λ n. p.seen ++ first_columns n others) (sym none) ∙ p.so_far) p.short
