-- What the productions stand for under a registry, and what of them is at fault.
use Rattle.std.specs.Prelude.{ℕ, suc, ◌==◌, ◌||◌, ◌&&◌, max, min, nat_eq, nat_lt, Bool, true, false, cond, List, [], ◌∷◌, ◌++◌, map, Option, None, Some, is_some}
use Rattle.std.specs.Cmp.Lexicographic.{pointwise}
use Rattle.mt_text_spec.specs.Registries.{Registry, attr_names, kind_names, kind_attrs}
use Rattle.mt_text_spec.specs.Queries as q
use Rattle.mt_query_spec.specs.Trees.{Tested, OfToken, OfTag, Comparison, Accepts, Refuses, Equals, Differs, TestRank, TestTree, Label, NoLabel, Labelled, Repetition, Star, Plus, Question, Exactly, From, Between, Rank, ExprTree, Op, Within, NotWithin, Containing, NotContaining, Filtered, Operand, Filters, FilterTree, CondTree, QueryTree, Asks, AsksFiltered}
use Rattle.mt_query_spec.specs.Trees as tree

-- ## Names

-- the number of a name among the names that are declared, in order from 0
abbrev pub number_of : List (List ℕ) → List ℕ → Option ℕ
number_of [] name = None
number_of (first ∷ names) name = cond (pointwise nat_eq first name) (Some 0) (elim (number_of names name) [ Some n ↦ Some (suc n) | None ↦ None ])

-- the attributes of a kind by its name; none where the kind is not declared
abbrev pub attrs_of_kind : Registry → List ℕ → List (List ℕ)
attrs_of_kind registry name = elim (number_of (kind_names registry.kinds) name) [ Some kind ↦ kind_attrs registry.kinds kind | None ↦ [] ]

-- what stands for a name that is not declared, in a query that is refused for it
abbrev pub or_first : Option ℕ → ℕ
or_first None = 0
or_first (Some n) = n

-- the place of a name that is not declared
abbrev pub undeclared : ℕ → Option ℕ → Option ℕ
undeclared at (Some n) = None
undeclared at None = Some at

-- ## Places

-- the first of two places in the order of the text, where each may be missing and `left` stands before `right`
abbrev pub first_of : Option ℕ → Option ℕ → Option ℕ
first_of None right = right
first_of (Some at) right = Some at

-- the least of two places
abbrev pub least_of : Option ℕ → Option ℕ → Option ℕ
least_of None right = right
least_of (Some at) None = Some at
least_of (Some at) (Some other) = Some (min at other)

-- the least of some places
abbrev pub least : List (Option ℕ) → Option ℕ
least [] = None
least (at ∷ others) = least_of at (least others)

-- ## Strings

-- a string's content, where a backslash before a character of some kind falls away, and every other one stays
abbrev pub unescaped : (ℕ → Bool) → (taken : Bool) → List ℕ → List ℕ
unescaped falls false [] = []
unescaped falls true [] = 92 ∷ []
unescaped falls false (b ∷ rest) = cond (b == 92) (unescaped falls true rest) (b ∷ unescaped falls false rest)
unescaped falls true (b ∷ rest) = cond (falls b) (b ∷ unescaped falls false rest) (92 ∷ b ∷ unescaped falls false rest)

-- a pattern keeps its backslashes but before `"`
abbrev pub pattern_text : List ℕ → List ℕ
pattern_text content = unescaped (λ b. b == 34) false content

-- a literal keeps none before `"` and before `\`
abbrev pub literal_text : List ℕ → List ℕ
literal_text content = unescaped (λ b. b == 34 || b == 92) false content

-- ## Tests

-- a test by a comparison
abbrev pub compared : ℕ → Comparison → List ℕ → q.Test
compared attr Accepts content = q.Pattern attr (pattern_text content) false
compared attr Refuses content = q.Pattern attr (pattern_text content) true
compared attr Equals content = q.Literal attr (literal_text content) false
compared attr Differs content = q.Literal attr (literal_text content) true

-- the test under the names of attributes; a bare string is a pattern for the default attribute
abbrev pub test_of : List (List ℕ) → (default : ℕ) → {of : Tested} {rank : TestRank} → TestTree of rank → q.Test
test_of names default (tree.Compared at name comparison content) = compared (or_first (number_of names name)) comparison content
test_of names default (tree.Bare content) = q.Pattern default (pattern_text content) false
test_of names default (tree.Not inner) = q.Not (test_of names default inner)
test_of names default (tree.Bracketed inner) = test_of names default inner
test_of names default (tree.One inner) = test_of names default inner
test_of names default (tree.Both left right) = q.Both (test_of names default left) (test_of names default right)
test_of names default (tree.Sole inner) = test_of names default inner
test_of names default (tree.Either left right) = q.Either (test_of names default left) (test_of names default right)

-- no test holds of everything
abbrev pub maybe_test : List (List ℕ) → (default : ℕ) → {of : Tested} → Option (TestTree of tree.Whole) → q.Test
maybe_test names default None = q.Any
maybe_test names default (Some test) = test_of names default test

-- the first attribute in a test that is not declared
abbrev pub test_unknown : List (List ℕ) → {of : Tested} {rank : TestRank} → TestTree of rank → Option ℕ
test_unknown names (tree.Compared at name comparison content) = undeclared at (number_of names name)
test_unknown names (tree.Bare content) = None
test_unknown names (tree.Not inner) = test_unknown names inner
test_unknown names (tree.Bracketed inner) = test_unknown names inner
test_unknown names (tree.One inner) = test_unknown names inner
test_unknown names (tree.Both left right) = first_of (test_unknown names left) (test_unknown names right)
test_unknown names (tree.Sole inner) = test_unknown names inner
test_unknown names (tree.Either left right) = first_of (test_unknown names left) (test_unknown names right)

-- the same where there may be no test
abbrev pub maybe_unknown : List (List ℕ) → {of : Tested} → Option (TestTree of tree.Whole) → Option ℕ
maybe_unknown names None = None
maybe_unknown names (Some test) = test_unknown names test

-- ## Expressions

-- how often an atom may stand: at least, at most
abbrev pub least_turns : Repetition → ℕ
least_turns Star = 0
least_turns Plus = 1
least_turns Question = 0
least_turns (Exactly at n_at n) = n
least_turns (From at n_at n) = n
least_turns (Between at n_at n m_at m) = n

-- how often an atom may stand at most
abbrev pub most_turns : Repetition → ℕ
most_turns Star = 100
most_turns Plus = 100
most_turns Question = 1
most_turns (Exactly at n_at n) = n
most_turns (From at n_at n) = max 100 n
most_turns (Between at n_at n m_at m) = m

-- a label as a query keeps it; a number that is none is kept as 0, in a query that is refused for it
abbrev pub kept_label : ℕ → ℕ
kept_label number = cond (nat_lt number 10) number 0

-- a label as a query keeps it; 0 where there is none
abbrev pub label_number : Label → ℕ
label_number NoLabel = 0
label_number (Labelled at number) = kept_label number

-- the query's part under a registry and a default attribute
abbrev pub expr_of : Registry → (default : ℕ) → {rank : Rank} → ExprTree rank → q.Expr
expr_of registry default (tree.TokenTest label test) = q.TokenTest (label_number label) (maybe_test (attr_names registry.attrs) default test)
expr_of registry default (tree.String label content) = q.TokenTest (label_number label) (q.Pattern default (pattern_text content) false)
expr_of registry default (tree.BeginTag at name test) = q.Begin (or_first (number_of (kind_names registry.kinds) name)) (maybe_test (attrs_of_kind registry name) default test)
expr_of registry default (tree.WholeTag at name test) = q.Whole (or_first (number_of (kind_names registry.kinds) name)) (maybe_test (attrs_of_kind registry name) default test)
expr_of registry default (tree.EndTag at name) = q.End (or_first (number_of (kind_names registry.kinds) name))
expr_of registry default (tree.Group inner) = expr_of registry default inner
expr_of registry default (tree.Once inner) = expr_of registry default inner
expr_of registry default (tree.Repeated inner repetition) = q.Repeat (expr_of registry default inner) (least_turns repetition) (most_turns repetition)
expr_of registry default (tree.First item) = expr_of registry default item
expr_of registry default (tree.Then left right) = q.Seq (expr_of registry default left) (expr_of registry default right)
expr_of registry default (tree.Branch sequence) = expr_of registry default sequence
expr_of registry default (tree.Or left right) = q.Choice (expr_of registry default left) (expr_of registry default right)

-- the first name in an expression that is not declared
abbrev pub expr_unknown : Registry → {rank : Rank} → ExprTree rank → Option ℕ
expr_unknown registry (tree.TokenTest label test) = maybe_unknown (attr_names registry.attrs) test
expr_unknown registry (tree.String label content) = None
expr_unknown registry (tree.BeginTag at name test) = first_of (undeclared at (number_of (kind_names registry.kinds) name)) (maybe_unknown (attrs_of_kind registry name) test)
expr_unknown registry (tree.WholeTag at name test) = first_of (undeclared at (number_of (kind_names registry.kinds) name)) (maybe_unknown (attrs_of_kind registry name) test)
expr_unknown registry (tree.EndTag at name) = undeclared at (number_of (kind_names registry.kinds) name)
expr_unknown registry (tree.Group inner) = expr_unknown registry inner
expr_unknown registry (tree.Once inner) = expr_unknown registry inner
expr_unknown registry (tree.Repeated inner repetition) = expr_unknown registry inner
expr_unknown registry (tree.First item) = expr_unknown registry item
expr_unknown registry (tree.Then left right) = first_of (expr_unknown registry left) (expr_unknown registry right)
expr_unknown registry (tree.Branch sequence) = expr_unknown registry sequence
expr_unknown registry (tree.Or left right) = first_of (expr_unknown registry left) (expr_unknown registry right)

-- a `{` with the greater number first
abbrev pub turned_round : Repetition → Option ℕ
turned_round (Between at n_at n m_at m) = cond (nat_lt m n) (Some at) None
turned_round _ = None

-- the least place of such a `{`
abbrev pub range_fault : {rank : Rank} → ExprTree rank → Option ℕ
range_fault (tree.TokenTest label test) = None
range_fault (tree.String label content) = None
range_fault (tree.BeginTag at name test) = None
range_fault (tree.WholeTag at name test) = None
range_fault (tree.EndTag at name) = None
range_fault (tree.Group inner) = range_fault inner
range_fault (tree.Once inner) = range_fault inner
range_fault (tree.Repeated inner repetition) = least_of (range_fault inner) (turned_round repetition)
range_fault (tree.First item) = range_fault item
range_fault (tree.Then left right) = least_of (range_fault left) (range_fault right)
range_fault (tree.Branch sequence) = range_fault sequence
range_fault (tree.Or left right) = least_of (range_fault left) (range_fault right)

-- ## Labels

-- the labels 1 to 9
abbrev pub labels : List ℕ
labels = 1 ∷ 2 ∷ 3 ∷ 4 ∷ 5 ∷ 6 ∷ 7 ∷ 8 ∷ 9 ∷ []

-- the place of a label where it has this number
abbrev pub at_label : ℕ → Label → Option ℕ
at_label n NoLabel = None
at_label n (Labelled at number) = cond (nat_eq number n) (Some at) None

-- where a label first stands in an expression
abbrev pub label_place : ℕ → {rank : Rank} → ExprTree rank → Option ℕ
label_place n (tree.TokenTest label test) = at_label n label
label_place n (tree.String label content) = at_label n label
label_place n (tree.BeginTag at name test) = None
label_place n (tree.WholeTag at name test) = None
label_place n (tree.EndTag at name) = None
label_place n (tree.Group inner) = label_place n inner
label_place n (tree.Once inner) = label_place n inner
label_place n (tree.Repeated inner repetition) = label_place n inner
label_place n (tree.First item) = label_place n item
label_place n (tree.Then left right) = first_of (label_place n left) (label_place n right)
label_place n (tree.Branch sequence) = label_place n sequence
label_place n (tree.Or left right) = first_of (label_place n left) (label_place n right)

-- where each label first stands
abbrev pub label_places : {rank : Rank} → ExprTree rank → List (Option ℕ)
label_places part = map (λ n. label_place n part) labels

-- a number that is no label
abbrev pub no_label : Label → Option ℕ
no_label NoLabel = None
no_label (Labelled at number) = cond (nat_lt 0 number && nat_lt number 10) None (Some at)

-- the places of labels in a second part that stand in the first one too
abbrev pub again : List (Option ℕ) → List (Option ℕ) → List (Option ℕ)
again [] seconds = []
again firsts [] = []
again (None ∷ firsts) (second ∷ seconds) = again firsts seconds
again (Some at ∷ firsts) (second ∷ seconds) = second ∷ again firsts seconds

-- The least place of a label's number that is at fault: it is not 1 to 9; it stands under a repetition that may turn more than once; or the same label stands
-- before it in one sequence. Two branches of a choice may have one label.
abbrev pub label_fault : {rank : Rank} → ExprTree rank → Option ℕ
label_fault (tree.TokenTest label test) = no_label label
label_fault (tree.String label content) = no_label label
label_fault (tree.BeginTag at name test) = None
label_fault (tree.WholeTag at name test) = None
label_fault (tree.EndTag at name) = None
label_fault (tree.Group inner) = label_fault inner
label_fault (tree.Once inner) = label_fault inner
label_fault (tree.Repeated inner repetition) = least_of (label_fault inner) (cond (nat_lt 1 (most_turns repetition)) (least (label_places inner)) None)
label_fault (tree.First item) = label_fault item
label_fault (tree.Then left right) = least_of (label_fault left) (least_of (label_fault right) (least (again (label_places left) (label_places right))))
label_fault (tree.Branch sequence) = label_fault sequence
label_fault (tree.Or left right) = least_of (label_fault left) (label_fault right)

-- ## Filters

-- the kind of filter that an op is
abbrev pub kind_of : Op → q.FilterKind
kind_of (Within at) = q.Within
kind_of (NotWithin at) = q.NotWithin
kind_of (Containing at) = q.Containing
kind_of (NotContaining at) = q.NotContaining

-- a filter by its kind, with its operand and that operand's own filters
pub record FilterOf : Type 0 where
  pub kind : q.FilterKind
  pub head : q.Expr
  pub filters : q.Filters

-- some filters from left to right
abbrev pub chained : List FilterOf → q.Filters
chained [] = q.NoMore
chained (first ∷ others) = q.More first.kind first.head first.filters (chained others)

-- an operand with its own filters, or a list of filters
abbrev pub FilterMeaning : Filtered → Type 0
FilterMeaning Operand = q.Expr × q.Filters
FilterMeaning Filters = List FilterOf

-- the operand or the filters that the productions stand for
abbrev pub filters_of : Registry → (default : ℕ) → {sort : Filtered} → FilterTree sort → FilterMeaning sort
filters_of registry default (tree.Plain choice) = (expr_of registry default choice, q.NoMore)
filters_of registry default (tree.WithFilters choice filters) = (expr_of registry default choice, chained (filters_of registry default filters))
filters_of registry default (tree.Filter op operand) = let o = filters_of registry default operand in record { kind = kind_of op; head = o.0; filters = o.1 } ∷ []
filters_of registry default (tree.More filters op operand) =
    let o = filters_of registry default operand in filters_of registry default filters ++ record { kind = kind_of op; head = o.0; filters = o.1 } ∷ []

-- the same in operands and filters
abbrev pub filters_unknown : Registry → {sort : Filtered} → FilterTree sort → Option ℕ
filters_unknown registry (tree.Plain choice) = expr_unknown registry choice
filters_unknown registry (tree.WithFilters choice filters) = first_of (expr_unknown registry choice) (filters_unknown registry filters)
filters_unknown registry (tree.Filter op operand) = filters_unknown registry operand
filters_unknown registry (tree.More filters op operand) = first_of (filters_unknown registry filters) (filters_unknown registry operand)

-- the same in operands and filters
abbrev pub filters_range_fault : {sort : Filtered} → FilterTree sort → Option ℕ
filters_range_fault (tree.Plain choice) = range_fault choice
filters_range_fault (tree.WithFilters choice filters) = least_of (range_fault choice) (filters_range_fault filters)
filters_range_fault (tree.Filter op operand) = filters_range_fault operand
filters_range_fault (tree.More filters op operand) = least_of (filters_range_fault filters) (filters_range_fault operand)

-- each label in an operand is at fault
abbrev pub filters_label_fault : {sort : Filtered} → FilterTree sort → Option ℕ
filters_label_fault (tree.Plain choice) = least_of (label_fault choice) (least (label_places choice))
filters_label_fault (tree.WithFilters choice filters) = least_of (least_of (label_fault choice) (least (label_places choice))) (filters_label_fault filters)
filters_label_fault (tree.Filter op operand) = filters_label_fault operand
filters_label_fault (tree.More filters op operand) = least_of (filters_label_fault filters) (filters_label_fault operand)

-- ## Conditions

-- the condition that the productions stand for
abbrev pub cond_of : Registry → CondTree → q.Cond
cond_of registry c = record {
  left = kept_label c.left;
  left_attr = or_first (number_of (attr_names registry.attrs) c.left_name);
  equal = c.equal;
  right = kept_label c.right;
  right_attr = or_first (number_of (attr_names registry.attrs) c.right_name);
}

-- the same in one condition
abbrev pub cond_unknown : Registry → CondTree → Option ℕ
cond_unknown registry c = first_of (undeclared c.left_name_at (number_of (attr_names registry.attrs) c.left_name)) (undeclared c.right_name_at (number_of (attr_names registry.attrs) c.right_name))

-- the label is set where some label of this number has a place: `places` are those of the labels from `n` on
abbrev pub has_label : ℕ → List (Option ℕ) → ℕ → Bool
has_label n [] number = false
has_label n (at ∷ places) number = (nat_eq number n && is_some at) || has_label (suc n) places number

-- the place of a number for which the head has no label
abbrev pub missing_label : List (Option ℕ) → ℕ → ℕ → Option ℕ
missing_label places at number = cond (has_label 1 places number) None (Some at)

-- a condition names labels that the head has
abbrev pub cond_label_fault : List (Option ℕ) → CondTree → Option ℕ
cond_label_fault places c = least_of (missing_label places c.left_at c.left) (missing_label places c.right_at c.right)

-- the least place of a label at fault in conditions, where the head has its labels at these places
abbrev pub conds_label_fault : List (Option ℕ) → List CondTree → Option ℕ
conds_label_fault places [] = None
conds_label_fault places (c ∷ cs) = least_of (cond_label_fault places c) (conds_label_fault places cs)

-- the place of the first name in conditions that is not declared
abbrev pub conds_unknown : Registry → List CondTree → Option ℕ
conds_unknown registry [] = None
conds_unknown registry (c ∷ cs) = first_of (cond_unknown registry c) (conds_unknown registry cs)

-- ## Queries

-- the query that the productions stand for
abbrev pub query_of : Registry → (default : ℕ) → QueryTree → q.Query
query_of registry default (Asks head conds) = record { head = expr_of registry default head; filters = q.NoMore; conds = map (cond_of registry) conds }
query_of registry default (AsksFiltered head filters conds) = record {
  head = expr_of registry default head;
  filters = chained (filters_of registry default filters);
  conds = map (cond_of registry) conds;
}

-- the place of the first name in a query that is not declared
abbrev pub query_unknown : Registry → QueryTree → Option ℕ
query_unknown registry (Asks head conds) = first_of (expr_unknown registry head) (conds_unknown registry conds)
query_unknown registry (AsksFiltered head filters conds) = first_of (first_of (expr_unknown registry head) (filters_unknown registry filters)) (conds_unknown registry conds)

-- the least place of a `{` with the greater number first, in a query
abbrev pub query_range_fault : QueryTree → Option ℕ
query_range_fault (Asks head conds) = range_fault head
query_range_fault (AsksFiltered head filters conds) = least_of (range_fault head) (filters_range_fault filters)

-- the least place of a label at fault, in a query
abbrev pub query_label_fault : QueryTree → Option ℕ
query_label_fault (Asks head conds) = least_of (label_fault head) (conds_label_fault (label_places head) conds)
query_label_fault (AsksFiltered head filters conds) = least_of (least_of (label_fault head) (filters_label_fault filters)) (conds_label_fault (label_places head) conds)
