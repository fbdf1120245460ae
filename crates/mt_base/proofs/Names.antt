-- Looking a name up among the names of things.
use Rattle.std.proofs.Common.{◌≡◌, ◌≢◌, ℕ, ◌+◌, ◌<◌, ◌≤◌, ◌⊎◌, inl, inr, true, false, List, length, map, option_map, nat_eq, sym, ◌∙◌, ap, arith, Some}
use Rattle.std.specs.Prelude.{slice_get, slice_index_or}
use Rattle.std.specs.Cmp.Lexicographic.{pointwise}
use Rattle.std.specs.List.{Contains}
use Rattle.std.proofs.lemmas.Bool.{cases_lt}
use Rattle.std.proofs.lemmas.Grind.{common_steps}
use Rattle.std.proofs.lemmas.Option.{slice_get-map, slice_get-get_or}
use Rattle.std.proofs.lemmas.Slice.Eq.{bytes_eq-Decides}

-- none of the first `n` names is this one
pub record NoneBefore (names : List (List ℕ)) (name : List ℕ) (n : ℕ) : Type 0 where
  pub differ : (k : ℕ) → k < n → slice_get names k ≢ Some name

pub none_yet : (names : List (List ℕ)) (name : List ℕ) → NoneBefore names name 0
none_yet names name = record { differ = λ k l. absurd (omega arith) }

-- the name of what stands at a place
pub named_at : {A : Type 0} (name_of : A → List ℕ) (things : List A) (i : ℕ) (thing : A) (name : List ℕ) → i < length things → thing ≡ slice_index_or things i thing → name ≡ name_of thing →
    slice_get (map name_of things) i ≡ Some name
named_at name_of things i thing name l is n =
    slice_get-map name_of things i ∙ ap (option_map name_of) (slice_get-get_or things i thing l) ∙ ap (λ t. Some (name_of t)) (sym is) ∙ ap Some (sym n)

same_some : (a b : List ℕ) → Some a ≡ Some b → a ≡ b
same_some a b e = cc

not_same : (a b : List ℕ) → false ≡ pointwise nat_eq a b → a ≢ b
not_same a b differs e = let yes : pointwise nat_eq a b ≡ true = (bytes_eq-Decides a b).1 e in cc

at_or_before : (names : List (List ℕ)) (name other : List ℕ) (n k : ℕ) → NoneBefore names name n → slice_get names n ≡ Some other → other ≢ name → k < n + 1 → (k < n) ⊎ (n ≤ k) → slice_get names k ≢ Some name
at_or_before names name other n k before at differs l (inl low) e = before.differ k low e
at_or_before names name other n k before at differs l (inr high) e =
    let here : n ≡ k = omega arith in differs (same_some other name (sym at ∙ ap (slice_get names) here ∙ e))

-- one name more is another
pub one_more : (names : List (List ℕ)) (name other : List ℕ) (n : ℕ) → NoneBefore names name n → slice_get names n ≡ Some other → false ≡ pointwise nat_eq other name → NoneBefore names name (n + 1)
one_more names name other n before at differs = record { differ = λ k l. at_or_before names name other n k before at (not_same other name differs) l (cases_lt k n) }

pub same : (a b : List ℕ) → true ≡ pointwise nat_eq a b → a ≡ b
same a b e = (bytes_eq-Decides a b).0 (sym e)

pub not_there : (names : List (List ℕ)) (name : List ℕ) (n : ℕ) → NoneBefore names name n → length names ≤ n → Contains names name → ⊥
not_there names name n before all c = before.differ c.0 (let low : c.0 < length names = c.1 in omega arith) (slice_get-get_or names c.0 name c.1 ∙ ap Some c.2)

pub all_named : {A : Type 0} (name_of : A → List ℕ) (things : List A) → length (map name_of things) ≡ length things
all_named name_of things = grind (arith, common_steps)
