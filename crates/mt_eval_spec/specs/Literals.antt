-- How many steps a query takes at most whose head is a sequence of `==` tests, such as `[word=="a"] [word=="b"]`.
use Rattle.std.specs.Prelude.{ℕ, ◌≡◌, ◌+◌, ◌*◌, ◌^◌, ◌<◌, ◌≤◌, false, List, [], length, sum}
use Rattle.std.specs.List.{AllZip, Contains}
use Rattle.std.specs.List.Sorted.{IsStrictlyIncreasing}
use Rattle.mt_text_spec.specs.Queries.{Test, Any, Pattern, Literal, Not, Both, Either, Expr, TokenTest, Begin, End, Whole, Seq, Choice, Repeat, NoMore, Query}
use Rattle.mt_query_spec.specs.Contents.{token_tests}
use Rattle.mt_segment_spec.specs.Tables.{Tables, tables_at, token_count}
use Rattle.mt_eval_spec.specs.Told.{HoldsAt}

-- a test that an attribute has a value
abbrev pub IsEquals : Test → Type 0
IsEquals Any = ⊥
IsEquals (Pattern attr text negated) = ⊥
IsEquals (Literal attr text negated) = negated ≡ false
IsEquals (Not inner) = ⊥
IsEquals (Both left right) = ⊥
IsEquals (Either left right) = ⊥

-- one token after another and nothing else, each under such a test
abbrev pub AreEquals : Expr → Type 0
AreEquals (TokenTest label test) = IsEquals test
AreEquals (Begin kind test) = ⊥
AreEquals (End kind) = ⊥
AreEquals (Whole kind test) = ⊥
AreEquals (Seq left right) = AreEquals left × AreEquals right
AreEquals (Choice left right) = ⊥
AreEquals (Repeat inner least most) = ⊥

-- a query without filters and conditions whose head is a sequence of `==` tests
pub record IsPlain (query : Query) : Type 0 where
  pub head : AreEquals query.head
  pub filters : query.filters ≡ NoMore
  pub conds : query.conds ≡ []

-- ## Finding values

-- what it may take to find the value of an `==` test in the lexicon of its attribute: one step for each comparison
abbrev pub MayTake : Tables → Test → (steps : ℕ) → Type 0
MayTake tables Any steps = Unit {0}
MayTake tables (Pattern attr text negated) steps = Unit {0}
MayTake tables (Literal attr text negated) steps = 2 ^ steps ≤ 2 * length (tables_at tables.attrs attr).lexicon + 1
MayTake tables (Not inner) steps = Unit {0}
MayTake tables (Both left right) steps = Unit {0}
MayTake tables (Either left right) steps = Unit {0}

-- so many steps are what it may take to find the values of all these tests, each once
pub record FindEach (tables : Tables) (tests : List Test) (steps : ℕ) : Type 0 where
  pub each : List ℕ
  pub may : AllZip (MayTake tables) tests each
  pub sum_is : steps ≡ sum each

-- ## Finding rows

-- all places of a segment at which a test holds, ascending
pub record ArePlacesOf (tables : Tables) (test : Test) (places : List ℕ) : Type 0 where
  pub ascending : IsStrictlyIncreasing places
  pub only : (place : ℕ) → Contains places place → (place < token_count tables) × HoldsAt tables test place
  pub each : (place : ℕ) → place < token_count tables → HoldsAt tables test place → Contains places place

-- So many steps are no more, for each test of an expression, than one for each of the tests at each place at which this one holds: none where one holds nowhere.
abbrev pub AreFew : Tables → Expr → (steps : ℕ) → Type 0
AreFew tables expr steps = (test : Test) (places : List ℕ) → Contains (token_tests expr) test → ArePlacesOf tables test places → steps ≤ length (token_tests expr) * length places
