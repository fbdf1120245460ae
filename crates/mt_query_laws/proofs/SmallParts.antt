-- The parts of a valid query are in order and small, and no list of what stands in it is longer than its nodes.
use Rattle.std.proofs.Common.{ℕ, ◌+◌, ◌*◌, ◌≡◌, ◌≤◌, false, List, ◌++◌, arith, length, length-append, nat_lt}
use Rattle.std.specs.Prelude.{◌||◌, max}
use Rattle.std.proofs.lemmas.Bool.Decides.{nat_tests}
use Rattle.mt_text_spec.specs.Registries.{Registry}
use Rattle.mt_text_spec.specs.Queries.{Test, Any, Pattern, Literal, Not, Both, Either, Expr, TokenTest, Begin, End, Whole, Seq, Choice, Repeat, Filters, NoMore, More, Query}
use Rattle.mt_query_spec.specs.Measures.{test_nodes, expr_nodes, expr_size, filter_nodes, filter_size, nodes, size}
use Rattle.mt_query_spec.specs.Valid.{ValidExpr, ValidFilters, ValidQuery}
use Rattle.mt_query_spec.specs.Contents.{token_tests, tags, test_patterns, expr_patterns, filter_patterns, patterns, operands, IsInOrder, IsPart, AreParts}

-- ## Parts

pub in_order : (registry : Registry) (e : Expr) → ValidExpr registry e → IsInOrder e
in_order registry (TokenTest label test) v = v.0
in_order registry (Begin kind test) v = tt
in_order registry (End kind) v = tt
in_order registry (Whole kind test) v = tt
in_order registry (Seq left right) v = (in_order registry left v.0, in_order registry right v.1, v.2)
in_order registry (Choice left right) v = (in_order registry left v.0, in_order registry right v.1)
in_order registry (Repeat inner least most) v = (in_order registry inner v.0, v.1, v.2, v.3)

filters_in_order : (registry : Registry) (fs : Filters) → ValidFilters registry fs → filter_nodes fs ≤ 256 → filter_size fs ≤ 4096 → AreParts fs
filters_in_order registry NoMore v n s = tt
filters_in_order registry (More kind head filters others) v n s = (
  record { order = in_order registry head v.0; nodes = omega (arith, n); size = omega (arith, s) },
  v.1,
  filters_in_order registry filters v.2 (omega (arith, n)) (omega (arith, s)),
  filters_in_order registry others v.3 (omega (arith, n)) (omega (arith, s)),
)

not_below : (a b n m : ℕ) → (nat_lt a n || nat_lt b m) ≡ false → (n ≤ a) × (m ≤ b)
not_below a b n m h = (grind (arith, nat_tests), grind (arith, nat_tests))

pub head_is_part : (registry : Registry) (query : Query) → ValidQuery registry query → IsPart query.head
head_is_part registry query v =
    let b = not_below 256 4096 (nodes query) (size query) v.small in
    record { order = in_order registry query.head v.head; nodes = omega (arith, b.0); size = omega (arith, b.1) }

pub operands_are_parts : (registry : Registry) (query : Query) → ValidQuery registry query → AreParts query.filters
operands_are_parts registry query v =
    let b = not_below 256 4096 (nodes query) (size query) v.small in
    filters_in_order registry query.filters v.filters (omega (arith, b.0)) (omega (arith, b.1))

-- ## Counts

some_nodes : (e : Expr) → 1 ≤ expr_nodes e
some_nodes (TokenTest label test) = omega arith
some_nodes (Begin kind test) = omega arith
some_nodes (End kind) = omega arith
some_nodes (Whole kind test) = omega arith
some_nodes (Seq left right) = omega arith
some_nodes (Choice left right) = omega arith
some_nodes (Repeat inner least most) = omega arith

two_lists : {A : Type 0} (xs ys : List A) (a b : ℕ) → length xs ≤ a → length ys ≤ b → length (xs ++ ys) ≤ a + b
two_lists xs ys a b h k = omega (arith, length-append xs ys, h, k)

times : (n m most : ℕ) → n ≤ m → n ≤ m * max 1 most
times n m most h = go (max 1 most) (omega arith)
  where
    go : (k : ℕ) → 1 ≤ k → n ≤ m * k
    go k l = grind (arith, h, l)

pub few_tests : (e : Expr) → length (token_tests e) + length (tags e) ≤ expr_size e
few_tests (TokenTest label test) = omega arith
few_tests (Begin kind test) = omega arith
few_tests (End kind) = omega arith
few_tests (Whole kind test) = omega arith
few_tests (Seq left right) = omega (arith, few_tests left, few_tests right, length-append (token_tests left) (token_tests right), length-append (tags left) (tags right))
few_tests (Choice left right) = omega (arith, few_tests left, few_tests right, length-append (token_tests left) (token_tests right), length-append (tags left) (tags right))
few_tests (Repeat inner least most) = times (length (token_tests inner) + length (tags inner)) (expr_size inner) most (few_tests inner)

few_test_patterns : (t : Test) → length (test_patterns t) ≤ test_nodes t
few_test_patterns Any = omega arith
few_test_patterns (Pattern attr text negated) = omega arith
few_test_patterns (Literal attr text negated) = omega arith
few_test_patterns (Not inner) = omega (arith, few_test_patterns inner)
few_test_patterns (Both left right) = omega (arith, two_lists (test_patterns left) (test_patterns right) _ _ (few_test_patterns left) (few_test_patterns right))
few_test_patterns (Either left right) = omega (arith, two_lists (test_patterns left) (test_patterns right) _ _ (few_test_patterns left) (few_test_patterns right))

few_expr_patterns : (e : Expr) → length (expr_patterns e) ≤ expr_nodes e
few_expr_patterns (TokenTest label test) = omega (arith, few_test_patterns test)
few_expr_patterns (Begin kind test) = omega (arith, few_test_patterns test)
few_expr_patterns (End kind) = omega arith
few_expr_patterns (Whole kind test) = omega (arith, few_test_patterns test)
few_expr_patterns (Seq left right) = omega (arith, two_lists (expr_patterns left) (expr_patterns right) _ _ (few_expr_patterns left) (few_expr_patterns right))
few_expr_patterns (Choice left right) = omega (arith, two_lists (expr_patterns left) (expr_patterns right) _ _ (few_expr_patterns left) (few_expr_patterns right))
few_expr_patterns (Repeat inner least most) = omega (arith, few_expr_patterns inner)

few_filter_patterns : (fs : Filters) → length (filter_patterns fs) ≤ filter_nodes fs
few_filter_patterns NoMore = omega arith
few_filter_patterns (More kind head filters others) =
    let o = two_lists (filter_patterns filters) (filter_patterns others) _ _ (few_filter_patterns filters) (few_filter_patterns others) in
    omega (arith, two_lists (expr_patterns head) (filter_patterns filters ++ filter_patterns others) _ _ (few_expr_patterns head) o)

pub few_patterns : (query : Query) → length (patterns query) ≤ nodes query
few_patterns query = omega (arith, two_lists (expr_patterns query.head) (filter_patterns query.filters) _ _ (few_expr_patterns query.head) (few_filter_patterns query.filters))

-- an operand is a filter and a node of an expression at least
pub few_operands : (fs : Filters) → 2 * length (operands fs) ≤ filter_nodes fs
few_operands NoMore = omega arith
few_operands (More kind head filters others) =
    omega (arith, few_operands filters, few_operands others, some_nodes head, length-append (operands filters) (operands others))
