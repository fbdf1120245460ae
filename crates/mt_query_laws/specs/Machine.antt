-- What the parser does, token by token, whatever it builds. The promises stand in mt_query_spec, apart from it.
use Rattle.std.specs.Prelude.{ℕ, zero, suc, List, [], ◌∷◌, Option, None, Some}
use Rattle.mt_query_spec.specs.Tokens.{Token, Quoted, Number, Word, OpenCurly, Mark, Sign}
use Rattle.mt_query_spec.specs.Tokens as t
use Rattle.mt_query_spec.specs.Trees.{Comparison, Accepts, Refuses, Equals, Differs, TestRank, Unary, Conjunction, Whole}

-- what follows, if anything came before
abbrev pub and_then : {A B : Type 0} → Option A → (A → Option B) → Option B
and_then None f = None
and_then (Some x) f = f x

-- ## Tests

-- how a test is built
pub record TestWays (Y : TestRank → Type 0) : Type 0 where
  pub compared : ℕ → List ℕ → Comparison → List ℕ → Y Unary
  pub bare : Option (List ℕ → Y Unary)
  pub not : Y Unary → Y Unary
  pub bracketed : Y Whole → Y Unary
  pub one : Y Unary → Y Conjunction
  pub both : Y Conjunction → Y Unary → Y Conjunction
  pub sole : Y Conjunction → Y Whole
  pub either : Y Whole → Y Conjunction → Y Whole

-- what stands before a wanted test inside one pair of parentheses: tests up to the last `|`, tests from there to the last `&`, and signs `!`
pub record Level (Y : TestRank → Type 0) : Type 0 where
  pub either : Option (Y Whole)
  pub both : Option (Y Conjunction)
  pub nots : ℕ

-- where the reading of a test stands; `outer` has the levels outside, the nearest first
pub data TestState (Y : TestRank → Type 0) : Type 0 where
  WantTest : (level : Level Y) (outer : List (Level Y)) → TestState Y
  Named : (at : ℕ) (name : List ℕ) (level : Level Y) (outer : List (Level Y)) → TestState Y
  Compares : (at : ℕ) (name : List ℕ) (comparison : Comparison) (level : Level Y) (outer : List (Level Y)) → TestState Y
  HaveTest : (both : Y Conjunction) (either : Option (Y Whole)) (outer : List (Level Y)) → TestState Y

-- nothing of a level is read
abbrev pub empty_level : {Y : TestRank → Type 0} → Level Y
empty_level = record { either = None; both = None; nots = 0 }

-- nothing of a test is read
abbrev pub test_start : {Y : TestRank → Type 0} → TestState Y
test_start = WantTest empty_level []

-- a test negated so many times
abbrev pub nots_of : {A : Type 0} → (A → A) → ℕ → A → A
nots_of negated zero test = test
nots_of negated (suc n) test = nots_of negated n (negated test)

-- one alone, or one more behind others
abbrev pub joined_of : {A B : Type 0} → (A → B) → (B → A → B) → Option B → A → B
joined_of one more None test = one test
joined_of one more (Some left) test = more left test

-- a test without its signs `!` is read
abbrev pub have_test : {Y : TestRank → Type 0} → TestWays Y → Y Unary → Level Y → List (Level Y) → TestState Y
have_test ways test level outer = HaveTest (joined_of ways.one ways.both level.both (nots_of ways.not level.nots test)) level.either outer

-- the comparison of a sign, if it is one
abbrev pub comparison_of : Sign → Option Comparison
comparison_of t.Is = Some Accepts
comparison_of t.IsNot = Some Refuses
comparison_of t.Same = Some Equals
comparison_of t.Differs = Some Differs
comparison_of _ = None

-- where a test is wanted: the next token
unfoldable pub want_step : {Y : TestRank → Type 0} → TestWays Y → Level Y → List (Level Y) → Token → Option (TestState Y)
want_step ways level outer (Word at name) = Some (Named at name level outer)
want_step ways level outer (Quoted content) = elim ways.bare [ Some bare ↦ Some (have_test ways (bare content) level outer) | None ↦ None ]
want_step ways level outer (Mark t.Bang) = Some (WantTest (record level { nots = suc level.nots }) outer)
want_step ways level outer (Mark t.OpenRound) = Some (WantTest empty_level (level ∷ outer))
want_step ways level outer _ = None

-- behind the name of an attribute
unfoldable pub named_step : {Y : TestRank → Type 0} → ℕ → List ℕ → Level Y → List (Level Y) → Token → Option (TestState Y)
named_step at name level outer (Mark sign) = elim (comparison_of sign) [ Some comparison ↦ Some (Compares at name comparison level outer) | None ↦ None ]
named_step at name level outer _ = None

-- behind the sign of a comparison
unfoldable pub compares_step : {Y : TestRank → Type 0} → TestWays Y → ℕ → List ℕ → Comparison → Level Y → List (Level Y) → Token → Option (TestState Y)
compares_step ways at name comparison level outer (Quoted content) = Some (have_test ways (ways.compared at name comparison content) level outer)
compares_step ways at name comparison level outer _ = None

-- a `)` behind a test
unfoldable pub close_test : {Y : TestRank → Type 0} → TestWays Y → Y Whole → List (Level Y) → Option (TestState Y)
close_test ways test [] = None
close_test ways test (level ∷ outer) = Some (have_test ways (ways.bracketed test) level outer)

-- behind a test
unfoldable pub have_step : {Y : TestRank → Type 0} → TestWays Y → Y Conjunction → Option (Y Whole) → List (Level Y) → Token → Option (TestState Y)
have_step ways both either outer (Mark t.And) = Some (WantTest (record { either = either; both = Some both; nots = 0 }) outer)
have_step ways both either outer (Mark t.Bar) = Some (WantTest (record { either = Some (joined_of ways.sole ways.either either both); both = None; nots = 0 }) outer)
have_step ways both either outer (Mark t.CloseRound) = close_test ways (joined_of ways.sole ways.either either both) outer
have_step ways both either outer _ = None

-- the next token of a test
unfoldable pub test_step : {Y : TestRank → Type 0} → TestWays Y → TestState Y → Token → Option (TestState Y)
test_step ways (WantTest level outer) token = want_step ways level outer token
test_step ways (Named at name level outer) token = named_step at name level outer token
test_step ways (Compares at name comparison level outer) token = compares_step ways at name comparison level outer token
test_step ways (HaveTest both either outer) token = have_step ways both either outer token

-- the test that was read, where it may end here
unfoldable pub whole_test : {Y : TestRank → Type 0} → TestWays Y → TestState Y → Option (Y Whole)
whole_test ways (HaveTest both either []) = Some (joined_of ways.sole ways.either either both)
whole_test ways _ = None

-- all these tokens, one after another
unfoldable pub test_run : {Y : TestRank → Type 0} → TestWays Y → TestState Y → List Token → Option (TestState Y)
test_run ways state [] = Some state
test_run ways state (token ∷ tokens) = and_then (test_step ways state token) (λ next. test_run ways next tokens)
