-- How deep a query must nest at least, and how deep one that is read does.
use Rattle.std.proofs.Common.{ℕ, suc, ◌≡◌, ◌≤◌, Bool, true, false, List, [], ◌∷◌, ◌++◌, None, Some, Option, refl, ap, arith}
use Rattle.std.specs.Prelude.{max}
use Rattle.mt_text_spec.specs.Registries.{Registry, attr_names}
use Rattle.mt_text_spec.specs.Queries as q
use Rattle.mt_query_spec.specs.Trees.{Tested, Comparison, Accepts, Refuses, Equals, Differs, comparison_sign, TestRank, Unary, Conjunction, TestTree, test_tokens, maybe_tokens, Label, NoLabel, Labelled, label_tokens, Repetition, Star, Plus, Question, Exactly, From, Between, repetition_tokens, Rank, Atom, Item, Sequence, Choice, ExprTree, expr_tokens, Op, Within, NotWithin, Containing, NotContaining, op_tokens, Filtered, Operand, Filters, FilterTree, filter_tokens, CondTree, equality_sign, cond_tokens, conds_tokens, QueryTree, query_tokens}
use Rattle.mt_query_spec.specs.Trees as tree
use Rattle.mt_query_spec.specs.Meaning.{kind_of, or_first, number_of, compared, test_of, maybe_test, expr_of, FilterOf, FilterMeaning, chained, filters_of, query_of}
use Rattle.mt_query_spec.specs.Printed.{brackets_both, brackets_either, brackets_repeat, brackets_seq, brackets_choice, has_filters}

-- ## How deep a query must nest

-- one deeper in parentheses
abbrev pub deeper : Bool → ℕ → ℕ
deeper true k = suc k
deeper false k = k

abbrev pub test_need : TestRank → q.Test → ℕ
test_need rank q.Any = 0
test_need rank (q.Pattern attr text negated) = 0
test_need rank (q.Literal attr text negated) = 0
test_need rank (q.Not inner) = test_need Unary inner
test_need rank (q.Both left right) = deeper (brackets_both rank) (max (test_need Conjunction left) (test_need Unary right))
test_need rank (q.Either left right) = deeper (brackets_either rank) (max (test_need tree.Whole left) (test_need Conjunction right))

abbrev pub expr_need : Rank → q.Expr → ℕ
expr_need rank (q.TokenTest label test) = test_need tree.Whole test
expr_need rank (q.Begin kind test) = test_need tree.Whole test
expr_need rank (q.End kind) = 0
expr_need rank (q.Whole kind test) = test_need tree.Whole test
expr_need rank (q.Seq left right) = deeper (brackets_seq rank) (max (expr_need Sequence left) (expr_need Item right))
expr_need rank (q.Choice left right) = deeper (brackets_choice rank) (max (expr_need Choice left) (expr_need Sequence right))
expr_need rank (q.Repeat inner fewest most) = deeper (brackets_repeat rank) (expr_need Atom inner)

abbrev pub filters_need : q.Filters → ℕ
filters_need q.NoMore = 0
filters_need (q.More kind head filters others) = max (deeper (has_filters filters) (max (expr_need Choice head) (filters_need filters))) (filters_need others)

abbrev pub query_need : q.Query → ℕ
query_need query = max (expr_need Choice query.head) (filters_need query.filters)

-- ## How deep productions nest

abbrev pub test_depth : {of : Tested} {rank : TestRank} → TestTree of rank → ℕ
test_depth (tree.Compared at name comparison content) = 0
test_depth (tree.Bare content) = 0
test_depth (tree.Not inner) = test_depth inner
test_depth (tree.Bracketed inner) = suc (test_depth inner)
test_depth (tree.One inner) = test_depth inner
test_depth (tree.Both left right) = max (test_depth left) (test_depth right)
test_depth (tree.Sole inner) = test_depth inner
test_depth (tree.Either left right) = max (test_depth left) (test_depth right)

abbrev pub maybe_depth : {of : Tested} → Option (TestTree of tree.Whole) → ℕ
maybe_depth None = 0
maybe_depth (Some test) = test_depth test

abbrev pub expr_depth : {rank : Rank} → ExprTree rank → ℕ
expr_depth (tree.TokenTest label test) = maybe_depth test
expr_depth (tree.String label content) = 0
expr_depth (tree.BeginTag at name test) = maybe_depth test
expr_depth (tree.WholeTag at name test) = maybe_depth test
expr_depth (tree.EndTag at name) = 0
expr_depth (tree.Group inner) = suc (expr_depth inner)
expr_depth (tree.Once inner) = expr_depth inner
expr_depth (tree.Repeated inner repetition) = expr_depth inner
expr_depth (tree.First item) = expr_depth item
expr_depth (tree.Then left right) = max (expr_depth left) (expr_depth right)
expr_depth (tree.Branch sequence) = expr_depth sequence
expr_depth (tree.Or left right) = max (expr_depth left) (expr_depth right)

abbrev pub filter_depth : {sort : Filtered} → FilterTree sort → ℕ
filter_depth (tree.Plain choice) = expr_depth choice
filter_depth (tree.WithFilters choice filters) = suc (max (expr_depth choice) (filter_depth filters))
filter_depth (tree.Filter op operand) = filter_depth operand
filter_depth (tree.More filters op operand) = max (filter_depth filters) (filter_depth operand)

abbrev pub query_depth : QueryTree → ℕ
query_depth (tree.Asks head conds) = expr_depth head
query_depth (tree.AsksFiltered head filters conds) = max (expr_depth head) (filter_depth filters)

-- ## What must nest does

unary_most : (test : q.Test) → test_need Unary test ≤ suc (test_need tree.Whole test)
unary_most q.Any = omega arith
unary_most (q.Pattern attr text negated) = omega arith
unary_most (q.Literal attr text negated) = omega arith
unary_most (q.Not inner) = omega arith
unary_most (q.Both left right) = omega arith
unary_most (q.Either left right) = omega arith

conjunction_less : (test : q.Test) → test_need Conjunction test ≤ test_need Unary test
conjunction_less q.Any = omega arith
conjunction_less (q.Pattern attr text negated) = omega arith
conjunction_less (q.Literal attr text negated) = omega arith
conjunction_less (q.Not inner) = omega arith
conjunction_less (q.Both left right) = omega arith
conjunction_less (q.Either left right) = omega arith

whole_less : (test : q.Test) → test_need tree.Whole test ≤ test_need Conjunction test
whole_less q.Any = omega arith
whole_less (q.Pattern attr text negated) = omega arith
whole_less (q.Literal attr text negated) = omega arith
whole_less (q.Not inner) = omega arith
whole_less (q.Both left right) = omega arith
whole_less (q.Either left right) = omega arith

compared_need : (attr : ℕ) (comparison : Comparison) (content : List ℕ) (rank : TestRank) → test_need rank (compared attr comparison content) ≡ 0
compared_need attr Accepts content rank = refl
compared_need attr Refuses content rank = refl
compared_need attr Equals content rank = refl
compared_need attr Differs content rank = refl

module _ (names : List (List ℕ)) (default : ℕ) where
  test_nests : {of : Tested} {rank : TestRank} (part : TestTree of rank) → test_need rank (test_of names default part) ≤ test_depth part
  test_nests (tree.Compared at name comparison content) = omega (arith, compared_need (or_first (number_of names name)) comparison content Unary)
  test_nests (tree.Bare content) = omega arith
  test_nests (tree.Not inner) = test_nests inner
  test_nests (tree.Bracketed inner) = omega (arith, test_nests inner, unary_most (test_of names default inner))
  test_nests (tree.One inner) = omega (arith, test_nests inner, conjunction_less (test_of names default inner))
  test_nests (tree.Both left right) = omega (arith, test_nests left, test_nests right)
  test_nests (tree.Sole inner) = omega (arith, test_nests inner, whole_less (test_of names default inner))
  test_nests (tree.Either left right) = omega (arith, test_nests left, test_nests right)

  maybe_nests : {of : Tested} (part : Option (TestTree of tree.Whole)) → test_need tree.Whole (maybe_test names default part) ≤ maybe_depth part
  maybe_nests None = omega arith
  maybe_nests (Some test) = test_nests test

atom_most : (expr : q.Expr) → expr_need Atom expr ≤ suc (expr_need Choice expr)
atom_most (q.TokenTest label test) = omega arith
atom_most (q.Begin kind test) = omega arith
atom_most (q.End kind) = omega arith
atom_most (q.Whole kind test) = omega arith
atom_most (q.Seq left right) = omega arith
atom_most (q.Choice left right) = omega arith
atom_most (q.Repeat inner fewest most) = omega arith

item_less : (expr : q.Expr) → expr_need Item expr ≤ expr_need Atom expr
item_less (q.TokenTest label test) = omega arith
item_less (q.Begin kind test) = omega arith
item_less (q.End kind) = omega arith
item_less (q.Whole kind test) = omega arith
item_less (q.Seq left right) = omega arith
item_less (q.Choice left right) = omega arith
item_less (q.Repeat inner fewest most) = omega arith

sequence_less : (expr : q.Expr) → expr_need Sequence expr ≤ expr_need Item expr
sequence_less (q.TokenTest label test) = omega arith
sequence_less (q.Begin kind test) = omega arith
sequence_less (q.End kind) = omega arith
sequence_less (q.Whole kind test) = omega arith
sequence_less (q.Seq left right) = omega arith
sequence_less (q.Choice left right) = omega arith
sequence_less (q.Repeat inner fewest most) = omega arith

choice_less : (expr : q.Expr) → expr_need Choice expr ≤ expr_need Sequence expr
choice_less (q.TokenTest label test) = omega arith
choice_less (q.Begin kind test) = omega arith
choice_less (q.End kind) = omega arith
choice_less (q.Whole kind test) = omega arith
choice_less (q.Seq left right) = omega arith
choice_less (q.Choice left right) = omega arith
choice_less (q.Repeat inner fewest most) = omega arith

abbrev list_need : List FilterOf → ℕ
list_need [] = 0
list_need (f ∷ filters) = max (deeper (has_filters f.filters) (max (expr_need Choice f.head) (filters_need f.filters))) (list_need filters)

chained_need : (filters : List FilterOf) → filters_need (chained filters) ≡ list_need filters
chained_need [] = refl
chained_need (f ∷ filters) = ap (max (deeper (has_filters f.filters) (max (expr_need Choice f.head) (filters_need f.filters)))) (chained_need filters)

list_need_append : (xs ys : List FilterOf) → list_need (xs ++ ys) ≡ max (list_need xs) (list_need ys)
list_need_append [] ys = omega arith
list_need_append (x ∷ xs) ys = let e = list_need_append xs ys in omega arith

deeper_most : (b : Bool) (k : ℕ) → deeper b k ≤ suc k
deeper_most true k = omega arith
deeper_most false k = omega arith

abbrev sort_need : (sort : Filtered) → FilterMeaning sort → ℕ
sort_need Operand m = deeper (has_filters m.1) (max (expr_need Choice m.0) (filters_need m.1))
sort_need Filters m = list_need m

module _ (registry : Registry) (default : ℕ) where
  expr_nests : {rank : Rank} (part : ExprTree rank) → expr_need rank (expr_of registry default part) ≤ expr_depth part
  expr_nests (tree.TokenTest label test) = maybe_nests (attr_names registry.attrs) default test
  expr_nests (tree.String label content) = omega arith
  expr_nests (tree.BeginTag at name test) = maybe_nests _ default test
  expr_nests (tree.WholeTag at name test) = maybe_nests _ default test
  expr_nests (tree.EndTag at name) = omega arith
  expr_nests (tree.Group inner) = omega (arith, expr_nests inner, atom_most (expr_of registry default inner))
  expr_nests (tree.Once inner) = omega (arith, expr_nests inner, item_less (expr_of registry default inner))
  expr_nests (tree.Repeated inner repetition) = expr_nests inner
  expr_nests (tree.First item) = omega (arith, expr_nests item, sequence_less (expr_of registry default item))
  expr_nests (tree.Then left right) = omega (arith, expr_nests left, expr_nests right)
  expr_nests (tree.Branch sequence) = omega (arith, expr_nests sequence, choice_less (expr_of registry default sequence))
  expr_nests (tree.Or left right) = omega (arith, expr_nests left, expr_nests right)

  filters_nest : {sort : Filtered} (part : FilterTree sort) → sort_need sort (filters_of registry default part) ≤ filter_depth part
  filters_nest (tree.Plain choice) = omega (arith, expr_nests choice)
  filters_nest (tree.WithFilters choice filters) =
      omega (
        arith,
        deeper_most (has_filters (chained (filters_of registry default filters))) (max (expr_need Choice (expr_of registry default choice)) (filters_need (chained (filters_of registry default filters)))),
        expr_nests choice,
        filters_nest filters,
        chained_need (filters_of registry default filters),
      )
  filters_nest (tree.Filter op operand) = omega (arith, filters_nest operand)
  filters_nest (tree.More filters op operand) =
      let o = filters_of registry default operand in
      omega (arith, filters_nest filters, filters_nest operand, list_need_append (filters_of registry default filters) (record { kind = kind_of op; head = o.0; filters = o.1 } ∷ []))

  pub query_nests : (part : QueryTree) → query_need (query_of registry default part) ≤ query_depth part
  query_nests (tree.Asks head conds) = omega (arith, expr_nests head)
  query_nests (tree.AsksFiltered head filters conds) = omega (arith, expr_nests head, filters_nest filters, chained_need (filters_of registry default filters))
