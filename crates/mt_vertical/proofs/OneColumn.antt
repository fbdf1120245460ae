-- One column among the first ones.
use Rattle.std.proofs.Common.{◌≡◌, ℕ, zero, suc, ◌+◌, ◌-◌, ◌<◌, ◌≤◌, List, [], ◌∷◌, get_or, refl, sym, ◌∙◌, ap, arith}
use Rattle.mt_file_spec.specs.Tags.{missing}
use Rattle.mt_file_spec.specs.VerticalLines.{first_columns}

-- a column is where it was among those of the line
pub at_front : (n k : ℕ) (cs : List (List ℕ)) → k < n → get_or (first_columns n cs) k missing ≡ get_or cs k missing
at_front zero k cs l = absurd (omega (arith, l))
at_front (suc n) zero [] l = refl
at_front (suc n) (suc k) [] l = at_front n k [] (omega (arith, l))
at_front (suc n) zero (c ∷ cs) l = refl
at_front (suc n) (suc k) (c ∷ cs) l = at_front n k cs (omega (arith, l))

behind_first : (k : ℕ) (old new : List (List ℕ)) (column : List ℕ) → ((n : ℕ) → first_columns (n + 1) old ≡ column ∷ first_columns n new) → get_or new k missing ≡ get_or old (k + 1) missing
behind_first k old new column step =
    let more : suc k ≡ k + 1 = omega arith in
    sym (at_front (k + 1) k new (omega arith)) ∙ ap (λ cs. get_or cs (suc k) missing) (sym (step (k + 1))) ∙ at_front (k + 1 + 1) (suc k) old (omega arith) ∙ ap (λ n. get_or old n missing) more

-- one column is passed
pub column_passed : (count i : ℕ) (column : List ℕ) (old new : List (List ℕ)) (whole : List ℕ) → i < count → get_or old (count - i) missing ≡ whole →
    ((n : ℕ) → first_columns (n + 1) old ≡ column ∷ first_columns n new) → get_or new (count - (i + 1)) missing ≡ whole
column_passed count i column old new whole l e step =
    let more : count - (i + 1) + 1 ≡ count - i = omega (arith, l) in
    behind_first (count - (i + 1)) old new column step ∙ ap (λ n. get_or old n missing) more ∙ e

-- all columns before it are passed
pub column_met : (count i : ℕ) (column : List ℕ) (old new : List (List ℕ)) (whole : List ℕ) → count ≤ i → get_or old (count - i) missing ≡ whole →
    ((n : ℕ) → first_columns (n + 1) old ≡ column ∷ first_columns n new) → column ≡ whole
column_met count i column old new whole l e step =
    let none : count - i ≡ 0 = omega (arith, l) in
    ap (λ cs. get_or cs 0 missing) (sym (step 0)) ∙ at_front 1 0 old (omega arith) ∙ sym (ap (λ n. get_or old n missing) none) ∙ e
