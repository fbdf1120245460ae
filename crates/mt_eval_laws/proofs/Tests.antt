-- A test looks only at the attributes that it names.
use Rattle.std.proofs.Common.{◌≡◌, ℕ, ◌<◌, inl, inr, List, length, sym, subst}
use Rattle.mt_text_spec.specs.Queries.{Test, Any, Pattern, Literal, Not, Both, Either}
use Rattle.mt_query_spec.specs.Valid.{ValidTest, ValidMaybe}
use Rattle.mt_pattern_spec.specs.Patterns.{Accepts}
use Rattle.mt_match_spec.specs.Tests.{Unless, Holds}

-- two ways to give values agree on the attributes of these names
abbrev pub GiveSame : (names : List (List ℕ)) (value other : ℕ → List ℕ) → Type 0
GiveSame names value other = (attr : ℕ) → attr < length names → value attr ≡ other attr

turned : (names : List (List ℕ)) (value other : ℕ → List ℕ) → GiveSame names value other → GiveSame names other value
turned names value other same attr l = sym (same attr l)

test_holds : (names : List (List ℕ)) (test : Test) (value other : ℕ → List ℕ) → ValidTest names test → GiveSame names value other → Holds test value → Holds test other
test_holds names Any value other v same h = absurd v
test_holds names (Pattern attr text negated) value other v same h = subst (λ w. Unless negated (Accepts text w)) (same attr v.0) h
test_holds names (Literal attr text negated) value other v same h = subst (λ w. Unless negated (w ≡ text)) (same attr v) h
test_holds names (Not inner) value other v same h = λ more. h (test_holds names inner other value v (turned names value other same) more)
test_holds names (Both left right) value other v same h = (test_holds names left value other v.0 same h.0, test_holds names right value other v.1 same h.1)
test_holds names (Either left right) value other v same h =
    elim h [ inl a ↦ inl (test_holds names left value other v.0 same a) | inr b ↦ inr (test_holds names right value other v.1 same b) ]

pub holds_too : (names : List (List ℕ)) (test : Test) (value other : ℕ → List ℕ) → ValidMaybe names test → GiveSame names value other → Holds test value → Holds test other
holds_too names Any value other v same h = h
holds_too names (Pattern attr text negated) value other v same h = test_holds names (Pattern attr text negated) value other v same h
holds_too names (Literal attr text negated) value other v same h = test_holds names (Literal attr text negated) value other v same h
holds_too names (Not inner) value other v same h = test_holds names (Not inner) value other v same h
holds_too names (Both left right) value other v same h = test_holds names (Both left right) value other v same h
holds_too names (Either left right) value other v same h = test_holds names (Either left right) value other v same h
