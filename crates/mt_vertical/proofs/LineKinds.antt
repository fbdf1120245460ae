-- Lines that are skipped.
use Rattle.std.proofs.Common.{◌≡◌, ℕ, inl, inr, Bool, true, false, List, [], ◌∷◌, ◌++◌, length, take, drop, codes, sym, ◌∙◌, ap, arith, append_assoc, IsTrue, ◌↔◌}
use Rattle.std.specs.Prelude.{nat_eq}
use Rattle.std.specs.Cmp.Lexicographic.{pointwise, bytes_decides}
use Rattle.std.specs.List.{list_all}
use Rattle.std.proofs.lemmas.Bool.{true≢false}
use Rattle.std.proofs.lemmas.Grind.{common_steps}
use Rattle.std.proofs.lemmas.List.{take-append-drop}
use Rattle.std.proofs.lemmas.List.Sums.{list_all-from_AllPass}
use Rattle.mt_file_spec.specs.Tags.{is_space}
use Rattle.mt_file_spec.specs.VerticalLines.{Encloses, IsSkipped}

-- the bytes end with `>`
abbrev pub IsClosed : List ℕ → Type 0
IsClosed bytes = (inner : List ℕ) × (bytes ≡ inner ++ 62 ∷ [])

snoc_none : (xs : List ℕ) (x : ℕ) → [] ≡ xs ++ x ∷ [] → ⊥
snoc_none xs x e = let h : 0 ≡ length (xs ++ x ∷ []) = ap length e in grind (arith, common_steps, h)

snoc_last : (xs ys : List ℕ) (a b : ℕ) → xs ++ a ∷ [] ≡ ys ++ b ∷ [] → a ≡ b
snoc_last [] [] a b e = cc
snoc_last [] (y ∷ ys) a b e = absurd (snoc_none ys b (let h : [] ≡ ys ++ b ∷ [] = cc in h))
snoc_last (x ∷ xs) [] a b e = absurd (snoc_none xs a (let h : xs ++ a ∷ [] ≡ [] = cc in sym h))
snoc_last (x ∷ xs) (y ∷ ys) a b e = snoc_last xs ys a b cc

pub closed_gives : (bytes front : List ℕ) (last : ℕ) → bytes ≡ front ++ last ∷ [] → last ≡ 62 → IsClosed bytes
closed_gives bytes front last e l = (front, e ∙ ap (λ b. front ++ b ∷ []) l)

pub closed_back : (bytes front : List ℕ) (last : ℕ) → bytes ≡ front ++ last ∷ [] → IsClosed bytes → last ≡ 62
closed_back bytes front last e c = snoc_last front c.0 last 62 (sym e ∙ c.1)

pub not_closed : IsClosed [] → ⊥
not_closed c = snoc_none c.0 62 c.1

front_same : (start rest : List ℕ) → take (length start) (start ++ rest) ≡ start
front_same start rest = grind (arith, common_steps)

rest_same : (start rest : List ℕ) → drop (length start) (start ++ rest) ≡ rest
rest_same start rest = grind (arith, common_steps)

split : (start line rest : List ℕ) → pointwise nat_eq (take (length start) line) start ≡ true → rest ≡ drop (length start) line → line ≡ start ++ rest
split start line rest t r =
    sym (take-append-drop (length start) line) ∙ ap (λ s. s ++ drop (length start) line) ((bytes_decides (take (length start) line) start).0 t) ∙ ap (λ s. start ++ s) (sym r)

pub encloses_gives : (start line rest : List ℕ) → pointwise nat_eq (take (length start) line) start ≡ true → rest ≡ drop (length start) line → IsClosed rest → Encloses start line
encloses_gives start line rest t r c = (c.0, split start line rest t r ∙ ap (λ s. start ++ s) c.1 ∙ sym (append_assoc start c.0 (62 ∷ [])))

pub encloses_back : (start line rest : List ℕ) → rest ≡ drop (length start) line → Encloses start line → IsClosed rest
encloses_back start line rest r e =
    (e.0, r ∙ ap (drop (length start)) (e.1 ∙ append_assoc start e.0 (62 ∷ [])) ∙ rest_same start (e.0 ++ 62 ∷ []))

pub begins_else : (start line : List ℕ) → pointwise nat_eq (take (length start) line) start ≡ false → Encloses start line → ⊥
begins_else start line f e =
    let front : take (length start) line ≡ start = ap (take (length start)) (e.1 ∙ append_assoc start e.0 (62 ∷ [])) ∙ front_same start (e.0 ++ 62 ∷ []) in
    true≢false (sym ((bytes_decides (take (length start) line) start).1 front) ∙ f)

third : (line : List ℕ) (b : Bool) → list_all is_space line ≡ false → ¬ Encloses (codes "<?") line → (IsTrue b ↔ Encloses (codes "<!--") line) → IsSkipped line → IsTrue b
third line b s q t (inl h) = absurd (true≢false (sym (list_all-from_AllPass is_space line h) ∙ s))
third line b s q t (inr (inl h)) = absurd (q h)
third line b s q t (inr (inr h)) = t.1 h

-- a line that is none of the first two kinds is skipped where it is of the third
pub only_third : (line : List ℕ) (b : Bool) → list_all is_space line ≡ false → ¬ Encloses (codes "<?") line → (IsTrue b ↔ Encloses (codes "<!--") line) → IsTrue b ↔ IsSkipped line
only_third line b s q t = (λ h. inr (inr (t.0 h)), λ h. third line b s q t h)
