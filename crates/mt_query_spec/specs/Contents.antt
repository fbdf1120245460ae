-- What stands in a query, in the order of its text, and what is so of its parts whatever the registry.
use Rattle.std.specs.Prelude.{ℕ, ◌≡◌, ◌^◌, ◌<◌, ◌≤◌, ◌&&◌, Bool, true, false, cond, List, [], ◌∷◌, ◌++◌}
use Rattle.mt_text_spec.specs.Queries.{Test, Any, Pattern, Literal, Not, Both, Either, Expr, TokenTest, Begin, End, Whole, Seq, Choice, Repeat, Filters, NoMore, More, Query}
use Rattle.mt_query_spec.specs.Tokens.{Token, Quoted, Mark}
use Rattle.mt_query_spec.specs.Tokens as t
use Rattle.mt_query_spec.specs.Meaning.{pattern_text}
use Rattle.mt_query_spec.specs.Measures.{expr_nodes, expr_size}
use Rattle.mt_query_spec.specs.Valid.{has_label, HasNoLabel}

-- ## Tests and tags

-- the tests of tokens in an expression, from left to right
abbrev pub token_tests : Expr → List Test
token_tests (TokenTest label test) = test ∷ []
token_tests (Begin kind test) = []
token_tests (End kind) = []
token_tests (Whole kind test) = []
token_tests (Seq left right) = token_tests left ++ token_tests right
token_tests (Choice left right) = token_tests left ++ token_tests right
token_tests (Repeat inner least most) = token_tests inner

-- what of an instance a tag matches
pub data TagPlace : Type 0 where
  OfBegin : TagPlace
  OfEnd : TagPlace
  OfWhole : TagPlace

-- a tag: what it matches of an instance, the number of the instance's kind, and the test of its attributes; a closing tag has no test
pub record Tag : Type 0 where
  pub place : TagPlace
  pub kind : ℕ
  pub test : Test

-- the tags in an expression, from left to right
abbrev pub tags : Expr → List Tag
tags (TokenTest label test) = []
tags (Begin kind test) = record { place = OfBegin; kind = kind; test = test } ∷ []
tags (End kind) = record { place = OfEnd; kind = kind; test = Any } ∷ []
tags (Whole kind test) = record { place = OfWhole; kind = kind; test = test } ∷ []
tags (Seq left right) = tags left ++ tags right
tags (Choice left right) = tags left ++ tags right
tags (Repeat inner least most) = tags inner

-- ## Patterns

-- the texts of the patterns in a test, from left to right
abbrev pub test_patterns : Test → List (List ℕ)
test_patterns Any = []
test_patterns (Pattern attr text negated) = text ∷ []
test_patterns (Literal attr text negated) = []
test_patterns (Not inner) = test_patterns inner
test_patterns (Both left right) = test_patterns left ++ test_patterns right
test_patterns (Either left right) = test_patterns left ++ test_patterns right

-- those in an expression, in the tests of tokens and of tags alike
abbrev pub expr_patterns : Expr → List (List ℕ)
expr_patterns (TokenTest label test) = test_patterns test
expr_patterns (Begin kind test) = test_patterns test
expr_patterns (End kind) = []
expr_patterns (Whole kind test) = test_patterns test
expr_patterns (Seq left right) = expr_patterns left ++ expr_patterns right
expr_patterns (Choice left right) = expr_patterns left ++ expr_patterns right
expr_patterns (Repeat inner least most) = expr_patterns inner

-- those in filters: in each operand, and then in that operand's own filters
abbrev pub filter_patterns : Filters → List (List ℕ)
filter_patterns NoMore = []
filter_patterns (More kind head filters others) = expr_patterns head ++ (filter_patterns filters ++ filter_patterns others)

-- The patterns of a query in the order of its text. A refusal names one by its place among them, from 1.
abbrev pub patterns : Query → List (List ℕ)
patterns query = expr_patterns query.head ++ filter_patterns query.filters

-- the patterns that tokens write: each string but one behind `==` or `!==`; `literal` says whether such a sign stands right before
abbrev pub written_patterns : (literal : Bool) → List Token → List (List ℕ)
written_patterns literal [] = []
written_patterns literal (Quoted content ∷ rest) = cond literal (written_patterns false rest) (pattern_text content ∷ written_patterns false rest)
written_patterns literal (Mark t.Same ∷ rest) = written_patterns true rest
written_patterns literal (Mark t.Differs ∷ rest) = written_patterns true rest
written_patterns literal (token ∷ rest) = written_patterns false rest

-- ## Operands

-- the operands of filters in preorder: each before those of its own filters
abbrev pub operands : Filters → List Expr
operands NoMore = []
operands (More kind head filters others) = head ∷ (operands filters ++ operands others)

-- ## Parts

-- An expression obeys the rules on labels and ranges, whatever it names: no label stands twice in one sequence, and none under a repetition that may turn more
-- than once.
abbrev pub IsInOrder : Expr → Type 0
IsInOrder (TokenTest label test) = label < 10
IsInOrder (Begin kind test) = Unit {0}
IsInOrder (End kind) = Unit {0}
IsInOrder (Whole kind test) = Unit {0}
IsInOrder (Seq left right) = IsInOrder left × IsInOrder right × ((n : ℕ) → (has_label n left && has_label n right) ≡ false)
IsInOrder (Choice left right) = IsInOrder left × IsInOrder right
IsInOrder (Repeat inner least most) = IsInOrder inner × (least ≤ most) × (most < 10 ^ 9) × (1 < most → HasNoLabel inner)

-- a part of a valid query: in order, and no greater than a query may be
pub record IsPart (expr : Expr) : Type 0 where
  pub order : IsInOrder expr
  pub nodes : expr_nodes expr ≤ 256
  pub size : expr_size expr ≤ 4096

-- each operand of filters is such a part, and has no label
abbrev pub AreParts : Filters → Type 0
AreParts NoMore = Unit {0}
AreParts (More kind head filters others) = IsPart head × HasNoLabel head × AreParts filters × AreParts others
