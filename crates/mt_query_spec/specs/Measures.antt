-- How great a query is.
use Rattle.std.specs.Prelude.{ℕ, ◌+◌, ◌*◌, max, length}
use Rattle.mt_text_spec.specs.Queries.{Test, Any, Pattern, Literal, Not, Both, Either, Expr, TokenTest, Begin, End, Whole, Seq, Choice, Repeat, Filters, NoMore, More, Query}

-- how many tests a test has, itself among them
abbrev pub test_nodes : Test → ℕ
test_nodes Any = 1
test_nodes (Pattern attr text negated) = 1
test_nodes (Literal attr text negated) = 1
test_nodes (Not inner) = 1 + test_nodes inner
test_nodes (Both left right) = 1 + (test_nodes left + test_nodes right)
test_nodes (Either left right) = 1 + (test_nodes left + test_nodes right)

-- how many expressions and tests an expression has
abbrev pub expr_nodes : Expr → ℕ
expr_nodes (TokenTest label test) = 1 + test_nodes test
expr_nodes (Begin kind test) = 1 + test_nodes test
expr_nodes (End kind) = 1
expr_nodes (Whole kind test) = 1 + test_nodes test
expr_nodes (Seq left right) = 1 + (expr_nodes left + expr_nodes right)
expr_nodes (Choice left right) = 1 + (expr_nodes left + expr_nodes right)
expr_nodes (Repeat inner least most) = 1 + expr_nodes inner

-- a filter counts as one, with what stands in it
abbrev pub filter_nodes : Filters → ℕ
filter_nodes NoMore = 0
filter_nodes (More kind head filters others) = 1 + (expr_nodes head + (filter_nodes filters + filter_nodes others))

-- Nodes: the tests, expressions, filters and conditions of a query
abbrev pub nodes : Query → ℕ
nodes query = expr_nodes query.head + (filter_nodes query.filters + length query.conds)

-- how many token tests and tags stand in an expression, where each counts as often as the repetitions round it allow, and once at least
abbrev pub expr_size : Expr → ℕ
expr_size (TokenTest label test) = 1
expr_size (Begin kind test) = 1
expr_size (End kind) = 1
expr_size (Whole kind test) = 1
expr_size (Seq left right) = expr_size left + expr_size right
expr_size (Choice left right) = expr_size left + expr_size right
expr_size (Repeat inner least most) = expr_size inner * max 1 most

-- the sizes of all operands of filters together
abbrev pub filter_size : Filters → ℕ
filter_size NoMore = 0
filter_size (More kind head filters others) = expr_size head + (filter_size filters + filter_size others)

-- Size: of the head and of all operands together
abbrev pub size : Query → ℕ
size query = expr_size query.head + filter_size query.filters
