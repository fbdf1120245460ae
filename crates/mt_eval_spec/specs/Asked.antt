-- The patterns that a query asks for: those of its tests of tokens and instances from left to right, in the head and then in the operands.
use Rattle.std.specs.Prelude.{ℕ, List, [], ◌∷◌, ◌++◌}
use Rattle.mt_text_spec.specs.Queries.{Test, Any, Pattern, Literal, Not, Both, Either, Expr, TokenTest, Begin, End, Whole, Seq, Choice, Repeat, Filters, NoMore, More, Query}

-- those of a test
abbrev pub test_patterns : Test → List (List ℕ)
test_patterns Any = []
test_patterns (Pattern attr text negated) = text ∷ []
test_patterns (Literal attr text negated) = []
test_patterns (Not inner) = test_patterns inner
test_patterns (Both left right) = test_patterns left ++ test_patterns right
test_patterns (Either left right) = test_patterns left ++ test_patterns right

-- those of an expression
abbrev pub expr_patterns : Expr → List (List ℕ)
expr_patterns (TokenTest label test) = test_patterns test
expr_patterns (Begin kind test) = test_patterns test
expr_patterns (End kind) = []
expr_patterns (Whole kind test) = test_patterns test
expr_patterns (Seq left right) = expr_patterns left ++ expr_patterns right
expr_patterns (Choice left right) = expr_patterns left ++ expr_patterns right
expr_patterns (Repeat inner least most) = expr_patterns inner

-- those of filters: of each operand, and then of its own filters
abbrev pub filters_patterns : Filters → List (List ℕ)
filters_patterns NoMore = []
filters_patterns (More kind head filters others) = expr_patterns head ++ filters_patterns filters ++ filters_patterns others

-- those of a query
abbrev pub query_patterns : Query → List (List ℕ)
query_patterns query = expr_patterns query.head ++ filters_patterns query.filters
