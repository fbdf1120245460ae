-- What a look-up of a name finds.
use Rattle.std.proofs.Common.{◌≡◌, ℕ, ◌<◌, inl, inr, true, Option, None, Some, List, length, map, get_or, sym, ◌∙◌, ap, subst, arith, nat_eq}
use Rattle.std.specs.Prelude.{IfSome, IfNone, slice_get}
use Rattle.std.specs.List.{All, Contains}
use Rattle.std.specs.Str.{IsUtf8}
use Rattle.std.specs.Cmp.Lexicographic.{pointwise}
use Rattle.std.proofs.lemmas.Bool.{cases_lt, false_from_ne_true}
use Rattle.std.proofs.lemmas.List.{get_or_past}
use Rattle.std.proofs.lemmas.List.Elements.{All-map}
use Rattle.std.proofs.lemmas.List.Sums.{position_or_len_is}
use Rattle.std.proofs.lemmas.Option.{slice_get_within, get_or_from_slice_get}
use Rattle.std.proofs.lemmas.Slice.Eq.{bytes_eq-Decides}
use Rattle.std.proofs.lemmas.Grind.{common_steps}
use Rattle.std.proofs.lemmas.Str.{IsUtf8-from_ascii}
use Rattle.mt_text_spec.specs.Words.{IsIdentifier, is_identifier_byte}
use Rattle.mt_text_spec.specs.Registries.{AreDistinct}
use Rattle.mt_grammar_spec.specs.GrammarFile.{place_of}

place_is : (names : List (List ℕ)) (name : List ℕ) (n : ℕ) → AreDistinct names → slice_get names n ≡ Some name → n ≡ place_of name names
place_is names name n d e =
    let l = slice_get_within names n name e in
    let here = get_or_from_slice_get names n name name e in
    sym (position_or_len_is (pointwise nat_eq name) names n name (omega (arith, l))
    (λ k low. false_from_ne_true _ (λ same. d k n name low l (sym ((bytes_eq-Decides name (get_or names k name)).0 same) ∙ sym here)))
    (λ _. (bytes_eq-Decides name (get_or names n name)).1 (sym here)))

-- it finds the number of the name
pub found_place : (names : List (List ℕ)) (name seen : List ℕ) (found : Option ℕ) → AreDistinct names → seen ≡ name → IfSome found (λ n. slice_get names n ≡ Some seen) → IfSome found (λ n. n ≡ place_of name names)
found_place names name seen None d s h = tt
found_place names name seen (Some n) d s h = place_is names name n d (h ∙ ap (λ (x : List ℕ). Some x) s)

pub found_within : {X : Type 0} (xs : List X) (f : X → List ℕ) (seen : List ℕ) (found : Option ℕ) → IfSome found (λ n. slice_get (map f xs) n ≡ Some seen) → IfSome found (λ n. n < length xs)
found_within xs f seen None h = tt
found_within xs f seen (Some n) h = let l = slice_get_within (map f xs) n seen h in grind (arith, common_steps, l)

pub found_there : (names : List (List ℕ)) (name seen : List ℕ) (found : Option ℕ) → seen ≡ name → IfSome found (λ n. slice_get names n ≡ Some seen) → IfSome found (λ n. Contains names name)
found_there names name seen None s h = tt
found_there names name seen (Some n) s h = let e = h ∙ ap (λ (x : List ℕ). Some x) s in (n, slice_get_within names n name e, get_or_from_slice_get names n name name e)

pub found_none : (names : List (List ℕ)) (name seen : List ℕ) (found : Option ℕ) → seen ≡ name → IfNone found (Contains names seen → ⊥) → IfNone found (Contains names name → ⊥)
found_none names name seen None s h = subst (λ (x : List ℕ). Contains names x → ⊥) s h
found_none names name seen (Some n) s h = tt

-- ## What is not UTF-8 is no name

small : (b : ℕ) → is_identifier_byte b ≡ true → b < 128
small b e = grind (arith, common_steps)

identifier_utf8 : (name : List ℕ) → IsIdentifier name → IsUtf8 name
identifier_utf8 name h = IsUtf8-from_ascii name (λ i. elim (cases_lt i (length name)) [ inl l ↦ small (get_or name i 0) (h.each i 0 l) | inr l ↦ let z = get_or_past name i 0 l in omega (arith, z) ])

pub named_utf8 : (names : List (List ℕ)) (name : List ℕ) → All IsIdentifier names → Contains names name → IsUtf8 name
named_utf8 names name all there = subst IsUtf8 there.2 (identifier_utf8 _ (all there.0 name there.1))

pub all_named : {X : Type 0} (P : X → Type 0) (f : X → List ℕ) (xs : List X) → All P xs → ((x : X) → P x → IsIdentifier (f x)) → All IsIdentifier (map f xs)
all_named P f xs all named = All-map IsIdentifier f xs (λ i d l. named _ (all i d l))
