-- What the enums of a query stand for: a test, an expression, the kind of a filter, and filters.
use Rattle.mt_text_spec.specs.Queries as q
use Rattle.mt_cql.specs.declared.query.Test.{Test}
use Rattle.mt_cql.specs.declared.query.Test.TheVariants.{Any, Pattern, Literal, Not', Both', Either'}
use Rattle.mt_cql.specs.declared.query.Expr.{Expr}
use Rattle.mt_cql.specs.declared.query.Expr.TheVariants.{Token, Begin, End, Whole, Seq', Choice', Repeat'}
use Rattle.mt_cql.specs.declared.query.FilterKind.{FilterKind}
use Rattle.mt_cql.specs.declared.query.FilterKind.TheVariants.{Within, NotWithin, Containing, NotContaining}
use Rattle.mt_cql.specs.declared.query.Filters.{Filters}
use Rattle.mt_cql.specs.declared.query.Filters.TheVariants as filters

-- the test that one of the program stands for
abbrev pub test_shape : Test → q.Test
test_shape Any = q.Any
test_shape (Pattern attr text negated) = q.Pattern attr text negated
test_shape (Literal attr text negated) = q.Literal attr text negated
test_shape (Not' p inner) = q.Not (test_shape inner)
test_shape (Both' p left r right) = q.Both (test_shape left) (test_shape right)
test_shape (Either' p left r right) = q.Either (test_shape left) (test_shape right)

-- the expression that one of the program stands for
abbrev pub shape : Expr → q.Expr
shape (Token label test) = q.TokenTest label (test_shape test)
shape (Begin kind test) = q.Begin kind (test_shape test)
shape (End kind) = q.End kind
shape (Whole kind test) = q.Whole kind (test_shape test)
shape (Seq' p left r right) = q.Seq (shape left) (shape right)
shape (Choice' p left r right) = q.Choice (shape left) (shape right)
shape (Repeat' p inner least most) = q.Repeat (shape inner) least most

-- the kind of filter that one of the program stands for
abbrev pub kind_shape : FilterKind → q.FilterKind
kind_shape Within = q.Within
kind_shape NotWithin = q.NotWithin
kind_shape Containing = q.Containing
kind_shape NotContaining = q.NotContaining

-- the filters that those of the program stand for
abbrev pub filters_shape : Filters → q.Filters
filters_shape filters.End = q.NoMore
filters_shape (filters.More' p kind head inner r others) = q.More (kind_shape kind) (shape head) (filters_shape inner) (filters_shape others)
