-- The number of a name.
use Rattle.std.proofs.Common.{ℕ, zero, suc, ◌≡◌, ◌<◌, Bool, true, false, List, [], ◌∷◌, None, Some, Option, refl, sym, ◌∙◌, ap, arith, length, nat_eq}
use Rattle.std.specs.Prelude.{slice_get, cond, IfSome, IfNone}
use Rattle.std.specs.Cmp.Lexicographic.{pointwise}
use Rattle.std.specs.List.{Contains}
use Rattle.std.proofs.lemmas.Option.{slice_get_within, get_or_from_slice_get}
use Rattle.std.proofs.lemmas.Slice.Eq.{bytes_eq-Decides}
use Rattle.std.proofs.lemmas.List.{length-map}
use Rattle.mt_text_spec.specs.Registries.{AreDistinct, Registry, ValidRegistry, kind_names, kind_attrs}
use Rattle.mt_query_spec.specs.Meaning.{number_of, attrs_of_kind}

same : (a b : List ℕ) → pointwise nat_eq a b ≡ true → a ≡ b
same a b h = (bytes_eq-Decides a b).0 h

equal : (a b : List ℕ) → a ≡ b → pointwise nat_eq a b ≡ true
equal a b h = (bytes_eq-Decides a b).1 h

later : (first : List ℕ) (names : List (List ℕ)) → AreDistinct (first ∷ names) → AreDistinct names
later first names d i j e l h = d (suc i) (suc j) e (omega arith) (omega arith)

abbrev next : Option ℕ → Option ℕ
next found = elim found [ Some n ↦ Some (suc n) | None ↦ None ]

pub number_found : (names : List (List ℕ)) (name : List ℕ) (n : ℕ) → AreDistinct names → slice_get names n ≡ Some name → Some n ≡ number_of names name
number_found [] name n d h = cc
number_found (first ∷ names) name zero d h =
    let e : first ≡ name = cc in
    sym (ap (λ b. cond b (Some 0) (next (number_of names name))) (equal first name e))
number_found (first ∷ names) name (suc n) d h = go (pointwise nat_eq first name) refl (number_found names name n (later first names d) h)
  where
    go : (b : Bool) → pointwise nat_eq first name ≡ b → Some n ≡ number_of names name → Some (suc n) ≡ cond b (Some 0) (next (number_of names name))
    go true e k =
        let l : n < length names = slice_get_within names n name h in
        absurd (d 0 (suc n) name (omega arith) (omega arith) (same first name e ∙ sym (get_or_from_slice_get names n name name h)))
    go false e k = ap next k

pub number_none : (names : List (List ℕ)) (name : List ℕ) → (Contains names name → ⊥) → None ≡ number_of names name
number_none [] name h = refl
number_none (first ∷ names) name h = go (pointwise nat_eq first name) refl (λ k. number_none names name k)
  where
    go : (b : Bool) → pointwise nat_eq first name ≡ b → ((Contains names name → ⊥) → None ≡ number_of names name) → None ≡ cond b (Some 0) (next (number_of names name))
    go true e k = absurd (h (0, omega arith, same first name e))
    go false e k = ap next (k (λ c. h (suc c.0, omega (arith, c.1), c.2)))

-- what a look-up says of its answer
pub numbered : (names : List (List ℕ)) (name : List ℕ) (found : Option ℕ) → AreDistinct names → IfSome found (λ n. slice_get names n ≡ Some name) → IfNone found (Contains names name → ⊥)
    → found ≡ number_of names name
numbered names name None d s n = number_none names name n
numbered names name (Some k) d s n = number_found names name k d s

pub number_within : (names : List (List ℕ)) (name : List ℕ) (n : ℕ) → Some n ≡ number_of names name → n < length names
number_within [] name n h = cc
number_within (first ∷ names) name n h = go (pointwise nat_eq first name) (number_of names name) (λ k e. number_within names name k (sym e)) h
  where
    go : (b : Bool) (found : Option ℕ) → ((k : ℕ) → found ≡ Some k → k < length names) → Some n ≡ cond b (Some 0) (next found) → n < suc (length names)
    go true found k h = let e : n ≡ 0 = cc in omega arith
    go false None k h = cc
    go false (Some m) k h = let e : n ≡ suc m = cc in let l = k m refl in omega arith

pub kind_declared : (registry : Registry) (name : List ℕ) (n : ℕ) → Some n ≡ number_of (kind_names registry.kinds) name → n < length registry.kinds
kind_declared registry name n h = let l = number_within (kind_names registry.kinds) name n h in let e = length-map registry.kinds (λ k. k.name) in omega arith

-- the number of an attribute of a kind
pub attr_numbered : (registry : Registry) (kind name : List ℕ) (n : ℕ) (found : Option ℕ) → ValidRegistry registry → Some n ≡ number_of (kind_names registry.kinds) kind
    → IfSome found (λ k. slice_get (kind_attrs registry.kinds n) k ≡ Some name) → IfNone found (Contains (kind_attrs registry.kinds n) name → ⊥)
    → found ≡ number_of (attrs_of_kind registry kind) name
attr_numbered registry kind name n found valid h s none =
    numbered (kind_attrs registry.kinds n) name found (valid.kinds n (record { name = []; attrs = [] }) (kind_declared registry kind n h)).distinct s none
    ∙ ap (λ found. number_of (elim found [ Some k ↦ kind_attrs registry.kinds k | None ↦ [] ]) name) h
