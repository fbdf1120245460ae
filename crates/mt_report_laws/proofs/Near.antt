-- A value that some span has near it is among all the values near spans.
use Rattle.std.proofs.Common.{◌≡◌, ℕ, ◌<◌, inl, inr, Bool, true, false, cond, ◌||◌, List, [], ◌∷◌, refl, ap, arith}
use Rattle.std.specs.List.{count_by, flat_map, list_any}
use Rattle.std.specs.Str.{bytes_eq}
use Rattle.std.specs.Cmp.Lexicographic.{bytes_decides}
use Rattle.std.proofs.lemmas.List.Sums.{sum_by-cons}
use Rattle.mt_match_laws.proofs.Members.{Member, in_back, in_front}

pub found : (value : List ℕ) (values : List (List ℕ)) → list_any (bytes_eq value) values ≡ true → Member value values
found value [] h = absurd cc
found value (x ∷ xs) h = by (found value xs) (bytes_eq value x) refl h
  where
    by : (list_any (bytes_eq value) xs ≡ true → Member value xs) → (b : Bool) → bytes_eq value x ≡ b → (b || list_any (bytes_eq value) xs) ≡ true → Member value (x ∷ xs)
    by more true e g = inl ((bytes_decides value x).0 e)
    by more false e g = inr (more g)

abbrev weight : Bool → ℕ
weight b = cond b 1 0

-- as many items as have the value near them are more than none: so one has it
pub counted : {X : Type 0} (near : X → List (List ℕ)) (value : List ℕ) (xs : List X) → 0 < count_by (λ x. list_any (bytes_eq value) (near x)) xs → Member value (flat_map near xs)
counted near value [] h = absurd (omega arith)
counted near value (x ∷ xs) h = by (counted near value xs) (list_any (bytes_eq value) (near x)) refl
  where
    by : (0 < count_by (λ y. list_any (bytes_eq value) (near y)) xs → Member value (flat_map near xs)) → (b : Bool) → list_any (bytes_eq value) (near x) ≡ b → Member value (flat_map near (x ∷ xs))
    by more true e = in_front (near x) (flat_map near xs) value (found value (near x) e)
    by more false e =
        let none : weight (list_any (bytes_eq value) (near x)) ≡ weight false = ap weight e in
        in_back (near x) (flat_map near xs) value (more (omega (arith, h, none, sum_by-cons (λ y. weight (list_any (bytes_eq value) (near y))) x xs)))
