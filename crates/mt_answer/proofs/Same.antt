-- The patterns of a query as they are built are those that a refusal counts.
use Rattle.std.proofs.Common.{◌≡◌, ◌++◌, refl, ◌∙◌, append_assoc}
use Rattle.mt_text_spec.specs.Queries.{Test, Any, Pattern, Literal, Not, Both, Either, Expr, TokenTest, Begin, End, Whole, Seq, Choice, Repeat, Filters, NoMore, More, Query}
use Rattle.mt_query_spec.specs.Contents as counted
use Rattle.mt_eval_spec.specs.Asked as built

tests : (test : Test) → built.test_patterns test ≡ counted.test_patterns test
tests Any = refl
tests (Pattern attr text negated) = refl
tests (Literal attr text negated) = refl
tests (Not inner) = tests inner
tests (Both left right) = λ i. tests left i ++ tests right i
tests (Either left right) = λ i. tests left i ++ tests right i

exprs : (expr : Expr) → built.expr_patterns expr ≡ counted.expr_patterns expr
exprs (TokenTest label test) = tests test
exprs (Begin kind test) = tests test
exprs (End kind) = refl
exprs (Whole kind test) = tests test
exprs (Seq left right) = λ i. exprs left i ++ exprs right i
exprs (Choice left right) = λ i. exprs left i ++ exprs right i
exprs (Repeat inner least most) = exprs inner

filters : (all : Filters) → built.filters_patterns all ≡ counted.filter_patterns all
filters NoMore = refl
filters (More kind head own others) =
    append_assoc (built.expr_patterns head) (built.filters_patterns own) (built.filters_patterns others) ∙ (λ i. exprs head i ++ (filters own i ++ filters others i))

pub patterns_same : (query : Query) → built.query_patterns query ≡ counted.patterns query
patterns_same query = λ i. exprs query.head i ++ filters query.filters i
