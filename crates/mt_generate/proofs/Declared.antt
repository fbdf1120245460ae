-- When a registry is the standard one.
use Rattle.std.proofs.Common.{◌≡◌, ◌↔◌, ℕ, Bool, true, false, List, [], ◌∷◌, length, get_or, Option, None, Some, IsTrue, nat_eq, refl, sym, ◌∙◌, ap, arith}
use Rattle.std.specs.Prelude.{is_some}
use Rattle.std.specs.Cmp.Lexicographic.{pointwise, bytes_decides}
use Rattle.std.proofs.lemmas.Bool.{true≢false, eqb-true}
use Rattle.mt_text_spec.specs.Registries.{Attr, Kind, base_attr}

pub not_true : IsTrue false → ⊥
not_true h = cc

empty : (xs : List ℕ) → true ≡ nat_eq (length xs) 0 → xs ≡ []
empty [] e = refl
empty (x ∷ xs) e = let l : length (x ∷ xs) ≡ 0 = eqb-true (length (x ∷ xs)) 0 (sym e) in absurd (omega (arith, l))

none : (names : List (List ℕ)) → true ≡ nat_eq (length names) 0 → names ≡ []
none [] e = refl
none (x ∷ xs) e = let l : length (x ∷ xs) ≡ 0 = eqb-true (length (x ∷ xs)) 0 (sym e) in absurd (omega (arith, l))

no_base : (base : Option ℕ) → is_some base ≡ false → base ≡ None
no_base None e = refl
no_base (Some n) e = absurd (true≢false e)

pub base_by : (attr : Attr) (name : List ℕ) (t : Bool) → attr.name ≡ name → is_some attr.base ≡ false → t ≡ nat_eq (length attr.mapper) 0 → IsTrue t ↔ (attr ≡ base_attr name)
base_by attr name true e f z =
    let base = no_base attr.base f in
    let mapper = empty attr.mapper z in
    ((λ h. (λ i. record { name = e i; base = base i; mapper = mapper i })), (λ k. refl))
base_by attr name false e f z = ((λ h. absurd (not_true h)), (λ k. absurd (true≢false (sym (z ∙ ap (λ (a : Attr). nat_eq (length a.mapper) 0) k)))))

pub bare_by : (kind : Kind) (name : List ℕ) (t : Bool) → kind.name ≡ name → t ≡ nat_eq (length kind.attrs) 0 → IsTrue t ↔ (kind ≡ record { name = name; attrs = [] })
bare_by kind name true e z = let attrs = none kind.attrs z in ((λ h. (λ i. record { name = e i; attrs = attrs i })), (λ k. refl))
bare_by kind name false e z = ((λ h. absurd (not_true h)), (λ k. absurd (true≢false (sym (z ∙ ap (λ (a : Kind). nat_eq (length a.attrs) 0) k)))))

alone : (names : List (List ℕ)) (x : List ℕ) → length names ≡ 1 → x ≡ get_or names 0 x → names ≡ x ∷ []
alone [] x l e = absurd (omega (arith, l))
alone (y ∷ []) x l e = ap (λ (n : List ℕ). n ∷ []) (sym e)
alone (y ∷ z ∷ more) x l e = absurd (omega (arith, l))

pub document_by : (kind : Kind) (x name id : List ℕ) (t : Bool) → kind.name ≡ name → length kind.attrs ≡ 1 → x ≡ get_or kind.attrs 0 x → t ≡ pointwise nat_eq x id → IsTrue t ↔ (kind ≡ record { name = name; attrs = id ∷ [] })
document_by kind x name id true e l at z =
    let attrs = alone kind.attrs x l at ∙ ap (λ (n : List ℕ). n ∷ []) ((bytes_decides x id).0 (sym z)) in
    ((λ h. (λ i. record { name = e i; attrs = attrs i })), (λ k. refl))
document_by kind x name id false e l at z =
    ((λ h. absurd (not_true h)), (λ k. absurd (true≢false (sym ((bytes_decides x id).1 (at ∙ ap (λ (a : Kind). get_or a.attrs 0 x) k)) ∙ sym z))))

pub same_name : (bytes name : List ℕ) → pointwise nat_eq bytes name ≡ true → bytes ≡ name
same_name bytes name e = (bytes_decides bytes name).0 e
